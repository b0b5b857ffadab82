-- The next word from a place on: the blanks before it are passed over.
use Rattle.std.proofs.Common.{◌≡◌, ℕ, suc, ◌+◌, ◌-◌, ◌<◌, ◌≤◌, Bool, true, false, cond, List, [], ◌∷◌, length, get_or, take, drop, Some, Ok, Err, sym, refl, ap, ◌∙◌, subst, add-zero, one-add, arith, drop-drop}
use Rattle.std.specs.List.{prefix_len}
use Rattle.std.proofs.lemmas.List.{at_drop_more, at_drop_all, get_or-drop, length-drop, take_all}
use Rattle.std.proofs.lemmas.List.Sums.{prefix_len_stops}
use Rattle.words.specs.Spelling.{blank}
use Rattle.words.specs.Words.{longest_at, word_at, next_of, end, next_word, next_refused}
use Rattle.words.specs.Records.{token_in, next_in}
use Rattle.words.specs.Inner.{taken_at}
use Rattle.words.specs.declared.token.Token.{Token as TokenRecord}
use Rattle.words.specs.declared.refusal.WordRefusal.{WordRefusal}

-- Blanks at the front are passed over.
pub next_over_blanks : (p : ℕ) (bs : List ℕ) → next_of p bs ≡ next_of (p + prefix_len blank bs) (drop (prefix_len blank bs) bs)
next_over_blanks p [] = refl
next_over_blanks p (b ∷ bs) = go (blank b) refl (next_over_blanks (suc p) bs)
  where
    go : (c : Bool) → blank b ≡ c → next_of (suc p) bs ≡ next_of (suc p + prefix_len blank bs) (drop (prefix_len blank bs) bs)
        → cond c (next_of (suc p) bs) (word_at p (b ∷ bs) (longest_at (b ∷ bs))) ≡ next_of (p + cond c (1 + prefix_len blank bs) 0) (drop (cond c (1 + prefix_len blank bs) 0) (b ∷ bs))
    go true e ih = rw (one-add (prefix_len blank bs)) (ih ∙ ap (λ q. next_of q (drop (prefix_len blank bs) bs)) (omega arith))
    go false e ih = rw (add-zero p, e)

-- After n blanks at a place.
module _ (t : List ℕ) (at n : ℕ) (run : n ≡ prefix_len blank (drop at t)) where
  next_behind_blanks : next_of at (drop at t) ≡ next_of (at + n) (drop (at + n) t)
  next_behind_blanks =
      next_over_blanks at (drop at t)
      ∙ (ap (λ k. next_of (at + k) (drop k (drop at t))) (sym run)
      ∙ ap (next_of (at + n)) (drop-drop n at t))

  pub next_at_end : length t ≤ at + n → end ≡ next_of at (drop at t)
  next_at_end le = sym (next_behind_blanks ∙ at_drop_all (next_of (at + n)) t (at + n) le)

  module _ (lt : at + n < length t) where
    first_not_blank : blank (get_or t (at + n) 0) ≡ false
    first_not_blank =
        ap blank (sym (get_or-drop at t n 0))
        ∙ (ap (λ k. blank (get_or (drop at t) k 0)) run
        ∙ prefix_len_stops blank (drop at t) 0 (omega (arith, run, length-drop at t)))

    first_byte : drop (at + n) t ≡ get_or t (at + n) 0 ∷ drop (at + n + 1) t
    first_byte = at_drop_more (λ z. z) t (at + n) 0 lt

    next_is_longest : word_at (at + n) (drop (at + n) t) (longest_at (drop (at + n) t)) ≡ next_of at (drop at t)
    next_is_longest =
        sym (next_behind_blanks
        ∙ (ap (next_of (at + n)) first_byte
        ∙ (rw first_not_blank (ap (λ z. word_at (at + n) z (longest_at z)) (sym first_byte)))))

    -- What was read of the bytes from there on, as a part of the text.
    module _ (bytes : List ℕ) (part : bytes ≡ drop (at + n) t) where
      pub word_to_next : (m : TokenRecord) (k : ℕ) → taken_at (at + n) bytes (Ok (m, k)) ≡ word_at (at + n) bytes (longest_at bytes)
          → next_in t (Ok (Some (record { token = m; place = at + n }, at + n + k))) ≡ next_of at (drop at t)
      word_to_next m k e =
          ap (next_word (record { token = token_in (drop (at + n) t) m; place = at + n }) (at + n + k)) (sym (drop-drop k (at + n) t))
          ∙ (subst (λ z. taken_at (at + n) z (Ok (m, k)) ≡ word_at (at + n) z (longest_at z)) part e
          ∙ next_is_longest)

      pub refusal_to_next : (r : WordRefusal) → taken_at (at + n) bytes (Err r) ≡ word_at (at + n) bytes (longest_at bytes) → next_refused r (at + n) ≡ next_of at (drop at t)
      refusal_to_next r e = e ∙ (ap (λ z. word_at (at + n) z (longest_at z)) part ∙ next_is_longest)

-- A part of a text that goes up to its end.
pub part_to_end : (t : List ℕ) (p : ℕ) → take (length t - p) (drop p t) ≡ drop p t
part_to_end t p = take_all (length t - p) (drop p t) (omega (arith, length-drop p t))
