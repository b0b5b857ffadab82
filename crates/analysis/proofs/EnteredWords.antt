-- The words of a work table with their lines, one after the other and all.
use Rattle.std.proofs.Common.{◌≡◌, ℕ, ◌+◌, ◌<◌, ◌≤◌, min, ◌⊎◌, List, [], ◌∷◌, ◌++◌, map, length, get_or, take, set, Some, None, Option, sym, refl, ap, ◌∙◌, subst, inl, inr, arith}
use Rattle.std.proofs.lemmas.List.{length-set, length-map, length-take, get_or-map, get_or-take, drop_all}
use Rattle.words.specs.declared.word.Word.{Word as WordRecord}
use Rattle.words.specs.declared.token.Token.TheVariants.{Name as NameToken}
use Rattle.words.specs.Token.{Word}
use Rattle.words.specs.Records.{word_in}
use Rattle.grammar.specs.Tree.{Name}
use Rattle.parser.specs.declared.table.Record.{Record}
use Rattle.parser.specs.Records.{View, words, nodes}
use Rattle.symbols.specs.TextOrder.{named_words}
use Rattle.analysis.specs.declared.symbol.NameRecord.{NameRecord}
use Rattle.analysis.specs.Letters.{word_letters}
use Rattle.analysis.specs.LineSearch.{line_letters}
use Rattle.analysis.specs.Lines.{NumberedWords, SoFar}
use Rattle.analysis.specs.Numbering.{names_among, view_of, names_in, new_line, found_line, number_or, lines_with, WordsOf, Entered, EntersWord, AllEntered}
use Rattle.analysis.proofs.LineOf.{index_found}
use Rattle.analysis.proofs.Entering.{x as new_name, other_word, found_is, known_word, room_for_new, new_word}
use Rattle.analysis.proofs.WorkTable.{words_set, nodes_set, length_words, word_record, place_of_word}

-- How many lines there are after a word whose line was found or not.
abbrev pub count_after : ℕ → Option ℕ → ℕ
count_after n (Some k) = n
count_after n None = n + 1

module _ (text : List ℕ) (rs : List Record) (w n : ℕ) (lines : List NameRecord) where
  -- The line found is one of the first n.
  pub found_below : (k : ℕ) → n ≤ length lines → found_line text rs w lines n ≡ Some k → k < n
  found_below k l h =
      let r = index_found (word_letters text rs w) (map (line_letters text rs) (take n lines)) 0 k h in
      let a = r.number in
      let b = r.within in
      let c = length-map (take n lines) (line_letters text rs) in
      let e = length-take n lines in
      omega arith

  -- The count grows just where the name had no line.
  pub next_new : n ≤ length lines → number_or n (found_line text rs w lines n) ≡ n → (o : Option ℕ) → found_line text rs w lines n ≡ o → n + 1 ≡ count_after n o
  next_new l e (Some k) h =
      let a : number_or n (found_line text rs w lines n) ≡ k = ap (λ (o : Option ℕ). number_or n o) h in
      let b = found_below k l h in
      absurd (omega arith)
  next_new l e None h = refl

  pub next_known : (k : ℕ) → k ≡ number_or n (found_line text rs w lines n) → (lines' : List NameRecord) → lines' ≡ lines_with lines w n (found_line text rs w lines n) → ((k ≡ n) × (length lines' ≤ n)) ⊎ (k ≡ n → ⊥) → (o : Option ℕ) → found_line text rs w lines n ≡ o → (o ≡ None → n < length lines) → n ≡ count_after n o
  next_known k e lines' f ways (Some j) h room = refl
  next_known k e lines' f ways None h room = go ways
    where
      go : ((k ≡ n) × (length lines' ≤ n)) ⊎ (k ≡ n → ⊥) → n ≡ n + 1
      go (inl q) =
          let a : length lines' ≡ length (set lines n (new_line w)) = ap length (f ∙ ap (λ (o : Option ℕ). lines_with lines w n o) h) in
          let b = length-set lines n (new_line w) in
          let c = q.1 in
          let r = room refl in
          absurd (omega arith)
      go (inr q) = absurd (q (e ∙ ap (λ (o : Option ℕ). number_or n o) h))

module _ (text : List ℕ) (rs : List Record) (w n : ℕ) (lines : List NameRecord) (d : Record) (within : w < length rs) where
  token_same : (get_or (words rs) w (get_or rs w d).word).token ≡ (get_or rs w d).word.token
  token_same = ap (λ (a : WordRecord). a.token) (word_record rs w d (get_or rs w d).word within)

  -- A word that is no name changes nothing.
  pub other_enters : n ≤ length lines → ((m : ℕ) → (get_or rs w d).word.token ≡ NameToken m → ⊥) → EntersWord text rs rs w n n lines lines
  other_enters room other =
      record {
        words = refl;
        nodes = refl;
        room = room;
        entered = λ v ns of fits inside so_far. (ns, other_word v text rs of (get_or rs w d).word w ns n lines inside so_far (λ m q. other m (sym token_same ∙ q)));
      }

  -- A name gets the number of its line, and a line if it has none.
  pub name_enters : (m : ℕ) → (get_or rs w d).word.token ≡ NameToken m → (r : Record) → r.word ≡ (get_or rs w d).word → r.node ≡ (get_or rs w d).node
      → r.symbol ≡ number_or n (found_line text rs w lines n) → (lines' : List NameRecord) → lines' ≡ lines_with lines w n (found_line text rs w lines n)
      → (n' : ℕ) → ((o : Option ℕ) → found_line text rs w lines n ≡ o → (o ≡ None → n < length lines) → n' ≡ count_after n o)
      → n' ≤ length lines' → EntersWord text rs (set rs w r) w n n' lines lines'
  name_enters m is r same_word same-node symbol lines' after n' next fits-still =
      record {
        room = fits-still;
        words = words_set rs w r d same_word;
        nodes = nodes_set rs w r d same-node;
        entered = λ v ns of fits inside so_far. go v ns of fits inside so_far (found_line text rs w lines n) refl;
      }
    where
      go : (v : View) (ns : List Name) (of : WordsOf v text rs) → length (names_in v) ≤ length lines → (inside : w < length v.words) (so_far : Entered v rs w ns n lines) → (o : Option ℕ) → found_line text rs w lines n ≡ o → (ns' : List Name) × Entered v (set rs w r) (w + 1) ns' n' lines'
      go v ns of fits inside so_far (Some k) h =
          let e : WordRecord = (get_or rs w d).word in
          let f = found_is v text rs of e w ns n lines inside so_far m (token_same ∙ is) r in
          let E : ℕ → List NameRecord → Type 0 = λ a l. Entered v (set rs w r) (w + 1) ns a l in
          let a : n' ≡ n = next (Some k) h (λ q. let z : ◌≡◌ {A = ℕ} 0 1 = cc in absurd (omega arith)) in
          let l : lines' ≡ lines = after ∙ ap (λ (o : Option ℕ). lines_with lines w n o) h in
          let E₁ : ℕ → Type 0 = λ a. E a lines in
          let E₂ : List NameRecord → Type 0 = λ l. E n' l in
          (ns, subst E₂ (sym l) (subst E₁ (sym a) (known_word v text rs of e w ns n lines inside so_far m (token_same ∙ is) r k (sym f ∙ h) (symbol ∙ ap (λ (o : Option ℕ). number_or n o) h))))
      go v ns of fits inside so_far None h =
          let e : WordRecord = (get_or rs w d).word in
          let f = found_is v text rs of e w ns n lines inside so_far m (token_same ∙ is) r in
          let room : n < length lines = room_for_new v text rs of e w ns n lines inside so_far m (token_same ∙ is) r (sym f ∙ h) fits in
          let more : List Name = ns ++ new_name v text rs of e w ns n lines inside so_far m (token_same ∙ is) r ∷ [] in
          let E : ℕ → List NameRecord → Type 0 = λ a l. Entered v (set rs w r) (w + 1) more a l in
          let a : n' ≡ n + 1 = next None h (λ q. room) in
          let l : lines' ≡ set lines n (new_line w) = after ∙ ap (λ (o : Option ℕ). lines_with lines w n o) h in
          let E₁ : ℕ → Type 0 = λ a. E a (set lines n (new_line w)) in
          let E₂ : List NameRecord → Type 0 = λ l. E n' l in
          (more, subst E₂ (sym l) (subst E₁ (sym a) (new_word v text rs of e w ns n lines inside so_far m (token_same ∙ is) r (sym f ∙ h) (symbol ∙ ap (λ (o : Option ℕ). number_or n o) h) room)))

-- The words of a table's view.
module _ (text : List ℕ) (rs : List Record) (count : ℕ) where
  abbrev v : View
  v = view_of text rs count

  length_view : length v.words ≡ min count (length rs)
  length_view =
      let a = length-map (take count (words rs)) (word_in text) in
      let b = length-take count (words rs) in
      let c = length_words rs in
      omega arith

  pub inside_view : (w : ℕ) → w < min count (length rs) → w < length v.words
  inside_view w h = let a = length_view in omega arith

  pub words_of_view : (rs' : List Record) → words rs' ≡ words rs → WordsOf v text rs'
  words_of_view rs' same u d e h =
      let a = length_view in
      let b = length-map (take count (words rs)) (word_in text) in
      let c = length-take count (words rs) in
      let f : length (words rs') ≡ length (words rs) = ap length same in
      let i : u < count = omega arith in
      let j : u < length (take count (words rs)) = omega arith in (
        omega arith,
        get_or-map (word_in text) (take count (words rs)) u e d j
            ∙ ap (word_in text) (get_or-take count (words rs) u e i ∙ ap (λ (l : List WordRecord). get_or l u e) (sym same)),
      )

  -- Before the first word there is no line.
  pub none_entered : (lines : List NameRecord) → Entered v rs 0 [] 0 lines
  none_entered lines =
      record {
        count = refl;
        table = record { room = omega arith; line = λ k a b h. absurd (omega arith) };
        left = refl;
        numbers = λ u x h named. absurd (omega arith);
        own = λ k e h. absurd (omega arith);
      }

  -- After the last word all names have their lines.
  pub all_entered : (rs' : List Record) (ns : List Name) (n w : ℕ) (lines : List NameRecord) → words rs' ≡ words rs → nodes rs' ≡ nodes rs → min count (length rs) ≤ w → Entered v rs' w ns n lines → AllEntered v rs' n lines
  all_entered rs' ns n w lines same-words same_nodes past so_far =
      let a = length_view in
      let e : WordRecord = record { token = NameToken 0; place = 0 } in
      let of = words_of_view rs' same-words in
      let all : ns ≡ names_in v = ap (λ (l : List Word). names_among ns (named_words l)) (sym (drop_all w v.words (omega arith))) ∙ so_far.left in
      let N : List Name → Type 0 = λ l. NumberedWords v rs' l in
      let T : List Name → Type 0 = λ l. SoFar v l [] [] lines in
      record {
        line_count = so_far.count ∙ ap length all;
        numbered = subst N all record {
          nodes = sym same_nodes;
          places = λ u x named.
              let o = of u (word_in text e) e named.0 in
              place_of_word rs' u e o.0 ∙ ap (λ (q : Word). q.place) (sym o.1 ∙ named.1 (word_in text e));
          lines = λ u x named. let h = named.0 in so_far.numbers u x (omega arith) named;
          own = so_far.own;
        };
        table = subst T all so_far.table;
      }
