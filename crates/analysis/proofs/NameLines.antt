-- From a word to the line of its name: the numbers and places that the work table has, and the record of a line.
use Rattle.std.proofs.Common.{◌≡◌, ℕ, zero, suc, ◌<◌, ◌≤◌, List, [], ◌∷◌, map, length, get_or, take, Some, None, Option, sym, refl, ap, ◌∙◌, subst, arith}
use Rattle.std.specs.Borrow.{Bor}
use Rattle.std.specs.List.{slice_get}
use Rattle.std.specs.Option.{IsSome, unwrap_or, option_copied, option_map_or}
use Rattle.words.specs.Token.{Word, name}
use Rattle.words.specs.Records.{word_in}
use Rattle.grammar.specs.Tree.{Name}
use Rattle.parser.specs.declared.table.Record.{Record}
use Rattle.parser.specs.Records.{words, View, Named}
use Rattle.symbols.specs.declared.value_type.ValueType.TheVariants.{Untyped}
use Rattle.symbols.specs.Symbols.{Kind, a_variable, Symbol, said, kind_in, type_in}
use Rattle.analysis.specs.declared.symbol.NameKind.{NameKind}
use Rattle.analysis.specs.declared.symbol.NameKind.TheVariants.{Variable}
use Rattle.analysis.specs.declared.symbol.NameRecord.{NameRecord}
use Rattle.analysis.specs.SymbolTable.{LineAt, KindAt, LinesAt, none, one_more, line_numbers, Numbered, HoldsSymbols}
use Rattle.analysis.specs.NameLines.{LineFound, word_places, PlacesLaw}

-- A number that each record has: within the table it is the record's, past the table 0.
module _ (f : Record → ℕ) (g : List Record → List ℕ) (empty : g [] ≡ []) (first : (r : Record) (rs : List Record) → g (r ∷ rs) ≡ f r ∷ g rs) where
  number_within : (rs : List Record) (w : ℕ) (d : Record) → w < length rs → f (get_or rs w d) ≡ get_or (g rs) w 0
  number_within [] w d h = absurd (omega arith)
  number_within (r ∷ rs) zero d h = ap (λ (l : List ℕ). get_or l 0 0) (sym (first r rs))
  number_within (r ∷ rs) (suc w) d h = number_within rs w d (omega arith) ∙ ap (λ (l : List ℕ). get_or l (suc w) 0) (sym (first r rs))

  number_past : (rs : List Record) (w : ℕ) → length rs ≤ w → 0 ≡ get_or (g rs) w 0
  number_past [] w h = ap (λ (l : List ℕ). get_or l w 0) (sym empty)
  number_past (r ∷ rs) zero h = absurd (omega arith)
  number_past (r ∷ rs) (suc w) h = number_past rs w (omega arith) ∙ ap (λ (l : List ℕ). get_or l (suc w) 0) (sym (first r rs))

pub line_number_within : (rs : List Record) (w : ℕ) (d : Record) → w < length rs → (get_or rs w d).symbol ≡ get_or (line_numbers rs) w 0
line_number_within = number_within (λ r. r.symbol) line_numbers refl (λ r rs. refl)

pub line_number_past : (rs : List Record) (w : ℕ) → length rs ≤ w → 0 ≡ get_or (line_numbers rs) w 0
line_number_past = number_past (λ r. r.symbol) line_numbers refl (λ r rs. refl)

pub place_within : (rs : List Record) (w : ℕ) (d : Record) → w < length rs → (get_or rs w d).word.place ≡ get_or (word_places rs) w 0
place_within = number_within (λ r. r.word.place) word_places refl (λ r rs. refl)

pub place_past : (rs : List Record) (w : ℕ) → length rs ≤ w → 0 ≡ get_or (word_places rs) w 0
place_past = number_past (λ r. r.word.place) word_places refl (λ r rs. refl)

-- What is behind a reference that there is.
pub copied_some : {A : Type 0} (o : Option (Bor A)) (d a : A) → IsSome o → unwrap_or (option_copied o) d ≡ a → option_copied o ≡ Some a
copied_some (Some b) d a h e = ap Some e
copied_some None d a h e = cc

-- Each line of the symbol table has its record.
record HeldAt (v : View) (ns : List NameRecord) (ss : List Symbol) (k : ℕ) (d : NameRecord) : Type 0 where
  line : Symbol
  is : slice_get ss k ≡ Some line
  held : LineAt v (get_or ns k d) line

line_there : {v : View} {ns : List NameRecord} {ss : List Symbol} → LinesAt v ns ss → (k : ℕ) (d : NameRecord) → k < length ss → HeldAt v ns ss k d
line_there none k d h = absurd (omega arith)
line_there (one_more {s = s} l ls) zero d h = record { line = s; is = refl; held = l }
line_there (one_more l ls) (suc k) d h =
    let r = line_there ls k d (omega arith) in
    record { line = r.line; is = r.is; held = r.held }

pub as_many : {v : View} {ns : List NameRecord} {ss : List Symbol} → LinesAt v ns ss → length ns ≡ length ss
as_many none = refl
as_many (one_more l ls) = ap suc (as_many ls)

-- The record of a name's word is that of its line.
module _ (v : View) (rs : List Record) (ns : List NameRecord) (ss : List Symbol) (w : ℕ) (x : Name) (h : HoldsSymbols v rs ns ss) (n : Named v w x) (k : ℕ) (number : k ≡ get_or (line_numbers rs) w 0) where
  pub numbered_by : Numbered ss x.letters k
  numbered_by = let P : ℕ → Type 0 = λ j. Numbered ss x.letters j in subst P (sym number) (h.numbers w x n)

  pub line_held : (d : NameRecord) → LineFound v ss x.letters (Some (get_or ns k d))
  line_held d =
      let m = numbered_by in
      let r = line_there h.lines k d m.there in
      record { entry = get_or ns k d; line = r.line; given = refl; found = sym m.line ∙ r.is; held = r.held }

  pub line_within : k < length ns
  line_within = let m = numbered_by.there in let e = as_many h.lines in omega arith

-- What the record found says is what the symbol table says.
module _ {v : View} {ss : List Symbol} {x : List ℕ} where
  pub line_type : (r : Option NameRecord) → LineFound v ss x r → option_map_or (λ l. l.value_type) r Untyped ≡ type_in ss x
  line_type r l =
      ap (λ (o : Option NameRecord). option_map_or (λ u. u.value_type) o Untyped) l.given
      ∙ (l.held.type ∙ sym (ap (λ (o : Option Symbol). said (λ s. s.type) Untyped o) l.found))

  pub line_kind : (r : Option NameRecord) (k : NameKind) → k ≡ option_map_or (λ l. l.kind) r Variable → LineFound v ss x r → KindAt v k (kind_in ss x)
  line_kind r k e l =
      let P : NameKind → Type 0 = λ n. KindAt v n (kind_in ss x) in
      let Q : Kind → Type 0 = λ k. KindAt v l.entry.kind k in
      subst P (sym (e ∙ ap (λ (o : Option NameRecord). option_map_or (λ u. u.kind) o Variable) l.given))
      (subst Q (sym (ap (λ (o : Option Symbol). said (λ s. s.kind) a_variable o) l.found)) l.held.kind)

-- The place of a word that was read from the text.
word_of : (text : List ℕ) (n : ℕ) (rs : List Record) (w : ℕ) (d : Word) → w < length (map (word_in text) (take n (words rs))) → (get_or (map (word_in text) (take n (words rs))) w d).place ≡ get_or (word_places rs) w 0
word_of text zero rs w d h = absurd (omega arith)
word_of text (suc n) [] w d h = absurd (omega arith)
word_of text (suc n) (r ∷ rs) zero d h = refl
word_of text (suc n) (r ∷ rs) (suc w) d h = word_of text n rs w d (omega arith)

pub places_held : PlacesLaw
places_held v text n rs e w x (h, q) =
    let d : Word = record { token = name []; place = 0 } in
    let k : w < length (map (word_in text) (take n (words rs))) = let P : List Word → Type 0 = λ l. w < length l in subst P e h in
    sym (word_of text n rs w d k) ∙ (ap (λ (l : List Word). (get_or l w d).place) (sym e) ∙ ap (λ (u : Word). u.place) (q d))
