-- The descriptor of an array's cells, as one number: first cell + 4,096 × count + 16,777,216 × (low bound + 10,000).
-- The low bound, which may be negative, is held as the number that is 10,000 more.
use Rattle.std.specs.Prelude.{◌≡◌, ℕ, ◌+◌, ◌*◌, ◌/◌, ◌%◌, ◌^◌, Bool, cond, ◌&&◌, ℤ, pos, ◌-ℤ◌, Some, None, Option, nat_le, nat_lt}
use Rattle.code.specs.declared.descriptor.Descriptor.{Descriptor}

-- The three parts of a number.
abbrev pub unpacked : ℕ → Descriptor
unpacked x = record { first = x % 4096; count = x / 4096 % 4096; biased_low = x / 16777216 }

-- The number of three parts, if first cell and count are below 4,096 and the number is below 2 ^ 64.
abbrev pub packed_number : Descriptor → ℕ
packed_number d = d.first + 4096 * d.count + 16777216 * d.biased_low

abbrev pub packable : Descriptor → Bool
packable d = nat_lt d.first 4096 && (nat_lt d.count 4096 && nat_lt d.biased_low (2 ^ 40))

abbrev pub packed : Descriptor → Option ℕ
packed d = cond (packable d) (Some (packed_number d)) None

-- What the conversion of a number gives: its three parts, of which it is the number.
pub record Unpacks (x : ℕ) (d : Descriptor) : Type 0 where
  pub value : d ≡ unpacked x
  pub undone : packed d ≡ Some x

-- A descriptor that an operation may have: at least one cell, all of them below m, a low bound within ±9,999.
abbrev pub range_ok : ℕ → Descriptor → Bool
range_ok m d =
    nat_le 1 d.count && (nat_le (d.first + d.count) m && (nat_le 1 d.biased_low && nat_le d.biased_low 19999))

-- The low bound itself.
abbrev pub low_bound : Descriptor → Option ℤ
low_bound d = cond (nat_le 1 d.biased_low && nat_le d.biased_low 19999) (Some (pos d.biased_low -ℤ pos 10000)) None
