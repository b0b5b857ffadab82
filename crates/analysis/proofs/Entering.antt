-- One word more has its line.
use Rattle.std.proofs.Common.{◌≡◌, ℕ, ◌+◌, ◌<◌, ◌≤◌, Bool, cond, ◌⊎◌, List, [], ◌∷◌, ◌++◌, map, length, get_or, take, drop, set, Some, None, sym, refl, ap, ◌∙◌, subst, inl, inr, arith}
use Rattle.std.proofs.lemmas.List.{length-set, length-map, length-take-le, length_push, get_or-set_same, get_or-set_other, get_or-map, get_or-take, get_or_append_left, get_or_push, map-append, drop_more, same_lists}
use Rattle.std.proofs.lemmas.Bool.{cases_eq}
use Rattle.words.specs.declared.word.Word.{Word as WordRecord}
use Rattle.words.specs.declared.token.Token.{Token as TokenRecord}
use Rattle.words.specs.declared.token.Token.TheVariants.{Name as NameToken, Number, Keyword, Mark, Sign, Scaling, Relation}
use Rattle.words.specs.Token.{Token, Word, name}
use Rattle.words.specs.Records.{token_in, word_in}
use Rattle.grammar.specs.Tree.{Name}
use Rattle.parser.specs.declared.table.Record.{Record}
use Rattle.parser.specs.Records.{View, words, Named}
use Rattle.symbols.specs.Symbols.{with_name}
use Rattle.symbols.specs.TextOrder.{name_at, named_words}
use Rattle.analysis.specs.declared.symbol.NameRecord.{NameRecord}
use Rattle.analysis.specs.SymbolTable.{variable, line_numbers}
use Rattle.analysis.specs.Letters.{token_letters, letters_in, word_letters}
use Rattle.analysis.specs.LineSearch.{line_from, line_letters}
use Rattle.analysis.specs.Lines.{letters_of, line_of, LineSoFar}
use Rattle.analysis.specs.Numbering.{names_among, names_in, new_line, found_line, WordsOf, Entered}
use Rattle.analysis.proofs.NewNames.{found_has, none_has, index_append, index_push, among_grows}
use Rattle.analysis.proofs.WorkTable.{numbers_set, length_words, length_numbers}

-- A word that is no name is none for the names so far.
no_name : (bs : List ℕ) (t : TokenRecord) (p : ℕ) → ((n : ℕ) → t ≡ NameToken n → ⊥) → name_at (token_in bs t) p ≡ []
no_name bs (NameToken n) p other = absurd (other n refl)
no_name bs (Number n) p other = refl
no_name bs (Keyword k) p other = refl
no_name bs (Mark m) p other = refl
no_name bs (Sign s) p other = refl
no_name bs (Scaling s) p other = refl
no_name bs (Relation r) p other = refl

never_named : (bs : List ℕ) (t : TokenRecord) → ((n : ℕ) → t ≡ NameToken n → ⊥) → (x : List ℕ) → token_in bs t ≡ name x → ⊥
never_named bs (NameToken n) other x e = other n refl
never_named bs (Number n) other x e = let z : ◌≡◌ {A = ℕ} 0 1 = cc in omega arith
never_named bs (Keyword k) other x e = let z : ◌≡◌ {A = ℕ} 0 1 = cc in omega arith
never_named bs (Mark m) other x e = let z : ◌≡◌ {A = ℕ} 0 1 = cc in omega arith
never_named bs (Sign s) other x e = let z : ◌≡◌ {A = ℕ} 0 1 = cc in omega arith
never_named bs (Scaling s) other x e = let z : ◌≡◌ {A = ℕ} 0 1 = cc in omega arith
never_named bs (Relation r) other x e = let z : ◌≡◌ {A = ℕ} 0 1 = cc in omega arith

-- The letters of a named word, as the work table has them.
pub named_letters : (v : View) (text : List ℕ) (rs : List Record) → WordsOf v text rs → (e : WordRecord) (u : ℕ) (x : Name) → Named v u x → word_letters text rs u ≡ x.letters
named_letters v text rs of e u x named =
    let l = of u (word_in text e) e named.0 in
    get_or-map (letters_in text) (words rs) u e [] l.0
    ∙ ap (λ (w : Word). token_letters w.token) (sym l.1 ∙ named.1 (word_in text e))

module _ (v : View) (text : List ℕ) (rs : List Record) (of : WordsOf v text rs) (e : WordRecord) (w : ℕ) (ns : List Name) (n : ℕ) (lines : List NameRecord) (inside : w < length v.words) (so_far : Entered v rs w ns n lines) where
  abbrev here : Word
  here = word_in text (get_or (words rs) w e)

  -- The word at hand goes before those that are left.
  left_is : drop w v.words ≡ here ∷ drop (w + 1) v.words
  left_is = drop_more v.words w here inside ∙ ap (λ (a : Word). a ∷ drop (w + 1) v.words) (of w here e inside).1

  left_after : names_among ns (name_at here.token here.place ++ named_words (drop (w + 1) v.words)) ≡ names_in v
  left_after = ap (λ (l : List Word). names_among ns (named_words l)) (sym left_is) ∙ so_far.left

  -- The letters of the lines are those of the names so far.
  lines_letters : map (line_letters text rs) (take n lines) ≡ letters_of ns
  lines_letters =
      let c = so_far.count in
      let o = so_far.table.room in
      let t : length (take n lines) ≡ n = length-take-le n lines (omega arith) in
      let a : length (map (line_letters text rs) (take n lines)) ≡ length (take n lines) = length-map (take n lines) (line_letters text rs) in
      let b : length (letters_of ns) ≡ length ns = length-map ns (λ (x : Name). x.letters) in
      same_lists (map (line_letters text rs) (take n lines)) (letters_of ns) (omega arith) (λ k d h. go k d (omega arith))
    where
      go : (k : ℕ) (d : List ℕ) → k < n → get_or (map (line_letters text rs) (take n lines)) k d ≡ get_or (letters_of ns) k d
      go k d h =
          let c = so_far.count in
          let o = so_far.table.room in
          let t : length (take n lines) ≡ n = length-take-le n lines (omega arith) in
          let x : Name = record { letters = []; place = 0 } in
          let i : k < length ns = omega arith in
          let j : k < length (take n lines) = omega arith in
          get_or-map (line_letters text rs) (take n lines) k (new_line 0) d j
          ∙ (ap (λ (r : NameRecord). line_letters text rs r) (get_or-take n lines k (new_line 0) h)
          ∙ (named_letters v text rs of e (get_or lines k (new_line 0)).word (get_or ns k x) (so_far.table.line k (new_line 0) x i).named
          ∙ sym (get_or-map (λ (y : Name). y.letters) ns k x d i)))

  -- A word that is no name.
  pub other_word : ((m : ℕ) → (get_or (words rs) w e).token ≡ NameToken m → ⊥) → Entered v rs (w + 1) ns n lines
  other_word other =
      record {
        count = so_far.count;
        table = so_far.table;
        left = ap (λ (l : List Name). names_among ns (l ++ named_words (drop (w + 1) v.words))) (sym (no_name (drop here.place text) (get_or (words rs) w e).token here.place other)) ∙ left_after;
        numbers = λ u x h named. go u x h named (cases_eq u w);
        own = so_far.own;
      }
    where
      go : (u : ℕ) (x : Name) → u < w + 1 → Named v u x → (u ≡ w) ⊎ (u ≡ w → ⊥) → line_of ns x.letters ≡ Some (get_or (line_numbers rs) u 0)
      go u x h named (inl q) =
          let N : ℕ → Type 0 = λ k. Named v k x in
          let m : get_or v.words w here ≡ record { token = name x.letters; place = x.place } = (subst N q named).1 here in
          absurd (never_named (drop here.place text) (get_or (words rs) w e).token other x.letters (ap (λ (a : Word). a.token) (sym (of w here e inside).1 ∙ m)))
      go u x h named (inr q) = so_far.numbers u x (omega arith) named

  -- A word that is a name.
  module _ (m : ℕ) (is_name : (get_or (words rs) w e).token ≡ NameToken m) (r : Record) where
    abbrev pub x : Name
    x = record { letters = word_letters text rs w; place = here.place }

    letters_here : word_letters text rs w ≡ letters_in text (get_or (words rs) w e)
    letters_here = get_or-map (letters_in text) (words rs) w e [] (of w here e inside).0

    token_here : here.token ≡ name (word_letters text rs w)
    token_here =
        let a : here.token ≡ name (take m (drop here.place text)) = ap (λ (t : TokenRecord). token_in (drop here.place text) t) is_name in
        a ∙ ap name (sym (letters_here ∙ ap token_letters a))

    named_here : Named v w x
    named_here = (inside, λ d. (of w d e inside).1 ∙ ap (λ (t : Token). record { token = t; place = here.place }) token_here)

    left_here : names_among (with_name ns x) (named_words (drop (w + 1) v.words)) ≡ names_in v
    left_here = ap (λ (t : Token). names_among ns (name_at t here.place ++ named_words (drop (w + 1) v.words))) (sym token_here) ∙ left_after

    -- Any name that the word is has these letters.
    same_name : (y : Name) → Named v w y → y.letters ≡ word_letters text rs w
    same_name y named = sym (named_letters v text rs of e w y named)

    pub found_is : found_line text rs w lines n ≡ line_of ns (word_letters text rs w)
    found_is = ap (λ (l : List (List ℕ)). line_from 0 (word_letters text rs w) l) lines_letters

    length_rs : w < length rs
    length_rs = let a = (of w here e inside).0 in let b = length_words rs in omega arith

    number_here : get_or (line_numbers (set rs w r)) w 0 ≡ r.symbol
    number_here =
        let a = length_numbers rs in
        let b = length_rs in
        ap (λ (l : List ℕ). get_or l w 0) (numbers_set rs w r) ∙ get_or-set_same (line_numbers rs) w r.symbol 0 (omega arith)

    number_other : (u : ℕ) → (u ≡ w → ⊥) → get_or (line_numbers (set rs w r)) u 0 ≡ get_or (line_numbers rs) u 0
    number_other u q = ap (λ (l : List ℕ). get_or l u 0) (numbers_set rs w r) ∙ get_or-set_other (line_numbers rs) w u r.symbol 0 q

    -- It has a line already.
    pub known_word : (k : ℕ) → line_of ns (word_letters text rs w) ≡ Some k → r.symbol ≡ k → Entered v (set rs w r) (w + 1) ns n lines
    known_word k found symbol =
        record {
          count = so_far.count;
          table = so_far.table;
          left = ap (λ (b : Bool). names_among (cond b ns (ns ++ x ∷ [])) (named_words (drop (w + 1) v.words))) (sym (found_has ns (word_letters text rs w) 0 k found)) ∙ left_here;
          numbers = λ u y h named. go u y h named (cases_eq u w);
          own = so_far.own;
        }
      where
        go : (u : ℕ) (y : Name) → u < w + 1 → Named v u y → (u ≡ w) ⊎ (u ≡ w → ⊥) → line_of ns y.letters ≡ Some (get_or (line_numbers (set rs w r)) u 0)
        go u y h named (inl q) =
            let N : ℕ → Type 0 = λ i. Named v i y in
            let G : ℕ → Type 0 = λ i. line_of ns y.letters ≡ Some (get_or (line_numbers (set rs w r)) i 0) in
            subst G (sym q) (ap (λ (l : List ℕ). line_of ns l) (same_name y (subst N q named)) ∙ (found ∙ ap Some (sym (number_here ∙ symbol))))
        go u y h named (inr q) = so_far.numbers u y (omega arith) named ∙ ap Some (sym (number_other u q))

    -- It gets a new one.
    module _ (absent : line_of ns (word_letters text rs w) ≡ None) where
      left_new : names_among (ns ++ x ∷ []) (named_words (drop (w + 1) v.words)) ≡ names_in v
      left_new = ap (λ (b : Bool). names_among (cond b ns (ns ++ x ∷ [])) (named_words (drop (w + 1) v.words))) (sym (none_has ns (word_letters text rs w) 0 absent)) ∙ left_here

      pub room_for_new : length (names_in v) ≤ length lines → n < length lines
      room_for_new fits =
          let a = among_grows (ns ++ x ∷ []) (named_words (drop (w + 1) v.words)) in
          let b : length (names_among (ns ++ x ∷ []) (named_words (drop (w + 1) v.words))) ≡ length (names_in v) = ap length left_new in
          let c = length_push ns x in
          let d = so_far.count in
          omega arith

      letters_new : letters_of (ns ++ x ∷ []) ≡ letters_of ns ++ word_letters text rs w ∷ []
      letters_new = map-append (λ (y : Name). y.letters) ns (x ∷ [])

      keeps_line : (y : List ℕ) (k : ℕ) → line_of ns y ≡ Some k → line_of (ns ++ x ∷ []) y ≡ Some k
      keeps_line y k h = ap (λ (l : List (List ℕ)). line_from 0 y l) letters_new ∙ index_append y (letters_of ns) (word_letters text rs w ∷ []) 0 k h

      gets_line : line_of (ns ++ x ∷ []) (word_letters text rs w) ≡ Some n
      gets_line =
          let b : length (letters_of ns) ≡ length ns = length-map ns (λ (y : Name). y.letters) in
          let d = so_far.count in
          let q : 0 + length (letters_of ns) ≡ n = omega arith in
          ap (λ (l : List (List ℕ)). line_from 0 (word_letters text rs w) l) letters_new ∙ (index_push (word_letters text rs w) (letters_of ns) 0 absent ∙ ap Some q)

      pub new_word : r.symbol ≡ n → n < length lines → Entered v (set rs w r) (w + 1) (ns ++ x ∷ []) (n + 1) (set lines n (new_line w))
      new_word symbol room =
          let c = length_push ns x in
          let d = so_far.count in
          let s = length-set lines n (new_line w) in
          let o = so_far.table.room in
          record {
            count = omega arith;
            table = record { room = omega arith; line = λ k a b h. line_at k a b h (cases_eq k n) };
            left = left_new;
            numbers = λ u y h named. go u y h named (cases_eq u w);
            own = λ k a h. own_at k a h (cases_eq k n);
          }
        where
          line_at : (k : ℕ) (a : NameRecord) (b : Name) → k < length (ns ++ x ∷ []) → (k ≡ n) ⊎ (k ≡ n → ⊥) → LineSoFar v [] [] (get_or (set lines n (new_line w)) k a) (get_or (ns ++ x ∷ []) k b)
          line_at k a b h (inl q) =
              let d : length ns ≡ k = let d = so_far.count in omega arith in
              let L : NameRecord → Name → Type 0 = λ l y. LineSoFar v [] [] l y in
              let new : L (new_line w) x = record { named = named_here; target = refl; kind = variable; defined = refl; type = refl; typed = refl } in
              let i : get_or (set lines n (new_line w)) k a ≡ new_line w = ap (λ (j : ℕ). get_or (set lines n (new_line w)) j a) q ∙ get_or-set_same lines n (new_line w) a room in
              let P : NameRecord → Type 0 = λ l. L l (get_or (ns ++ x ∷ []) k b) in
              let Q : Name → Type 0 = λ y. L (new_line w) y in
              subst P (sym i) (subst Q (sym (get_or_push ns x b k d)) new)
          line_at k a b h (inr q) =
              let c = length_push ns x in
              let d = so_far.count in
              let i : k < length ns = omega arith in
              let P : NameRecord → Type 0 = λ l. LineSoFar v [] [] l (get_or (ns ++ x ∷ []) k b) in
              let Q : Name → Type 0 = λ y. LineSoFar v [] [] (get_or lines k a) y in
              subst P (sym (get_or-set_other lines n k (new_line w) a q)) (subst Q (sym (get_or_append_left ns (x ∷ []) b k i)) (so_far.table.line k a b i))

          own_at : (k : ℕ) (a : Name) → k < length (ns ++ x ∷ []) → (k ≡ n) ⊎ (k ≡ n → ⊥) → line_of (ns ++ x ∷ []) (get_or (ns ++ x ∷ []) k a).letters ≡ Some k
          own_at k a h (inl q) =
              let d : length ns ≡ k = let d = so_far.count in omega arith in
              ap (λ (y : Name). line_of (ns ++ x ∷ []) y.letters) (get_or_push ns x a k d) ∙ (gets_line ∙ ap Some (sym q))
          own_at k a h (inr q) =
              let c = length_push ns x in
              let d = so_far.count in
              let i : k < length ns = omega arith in
              ap (λ (y : Name). line_of (ns ++ x ∷ []) y.letters) (get_or_append_left ns (x ∷ []) a k i) ∙ keeps_line (get_or ns k a).letters k (so_far.own k a i)

          go : (u : ℕ) (y : Name) → u < w + 1 → Named v u y → (u ≡ w) ⊎ (u ≡ w → ⊥) → line_of (ns ++ x ∷ []) y.letters ≡ Some (get_or (line_numbers (set rs w r)) u 0)
          go u y h named (inl q) =
              let N : ℕ → Type 0 = λ i. Named v i y in
              let G : ℕ → Type 0 = λ i. line_of (ns ++ x ∷ []) y.letters ≡ Some (get_or (line_numbers (set rs w r)) i 0) in
              subst G (sym q) (ap (λ (l : List ℕ). line_of (ns ++ x ∷ []) l) (same_name y (subst N q named)) ∙ (gets_line ∙ ap Some (sym (number_here ∙ symbol))))
          go u y h named (inr q) = keeps_line y.letters (get_or (line_numbers rs) u 0) (so_far.numbers u y (omega arith) named) ∙ ap Some (sym (number_other u q))
