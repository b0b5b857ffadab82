-- From the name table filled for a sentence that was read to what is told of the text.
use Rattle.std.proofs.Common.{◌≡◌, ℕ, ◌+◌, ◌-◌, ◌≤◌, min, List, map, length, take, Some, None, sym, ap, ◌∙◌, subst, arith}
use Rattle.std.proofs.lemmas.List.{take_min}
use Rattle.words.specs.Token.{Word}
use Rattle.words.specs.declared.word.Word.{Word as WordRecord}
use Rattle.words.specs.Records.{word_in}
use Rattle.grammar.specs.Tree.{Program}
use Rattle.grammar.specs.Meaning.{Sentence}
use Rattle.grammar.specs.Parser.{tree}
use Rattle.parser.specs.declared.node.Node.{Node}
use Rattle.parser.specs.declared.parse.Sentence.{Sentence as SentenceRecord}
use Rattle.parser.specs.declared.table.Record.{Record}
use Rattle.parser.specs.Records.{View, nodes, ProgramAt}
use Rattle.parser.specs.Reading.{SentenceRead}
use Rattle.symbols.specs.Occurrences.{occurrences, fors}
use Rattle.symbols.specs.Symbols.{symbols, named_cells, hidden_cells}
use Rattle.symbols.specs.Rules.{Verdict, accepted as names_accepted, refused as names_refused, verdict}
use Rattle.symbols.specs.Refusal.{number}
use Rattle.symbols.specs.Texts.{refused, of_verdict, of_sentence, of_words, answer}
use Rattle.symbols.proofs.Cells.{enough_cells}
use Rattle.analysis.specs.declared.symbol.NameRecord.{NameRecord}
use Rattle.analysis.specs.declared.name_table.NameTable.{NameTable}
use Rattle.analysis.specs.declared.offence.Offences.{Offences}
use Rattle.analysis.specs.declared.offence.Broken.{Broken}
use Rattle.analysis.specs.Filling.{Filled, Fills}
use Rattle.analysis.specs.LabelSets.{SmallTable}
use Rattle.analysis.specs.NameLines.{HoldsPlaces}
use Rattle.analysis.specs.Numbering.{view_of}
use Rattle.analysis.specs.SymbolTable.{HoldsSymbols}
use Rattle.analysis.specs.Verdicts.{OffencesOf, verdict_in}
use Rattle.symbols.proofs.Telling.{sentence}
use Rattle.analysis.proofs.FewLines.{small_tables}
use Rattle.analysis.proofs.NameLines.{places_held}
use Rattle.reading.specs.Reading.{TextRead, view}

module _ (text : List ℕ) (before table table' : List Record) (names names' : List NameRecord) (s : SentenceRecord) (filled : NameTable) where
  abbrev v : View
  v = view_of text table s.words

  module _ (fills : Fills text s.words s.root table table' names names' filled) (room : 256 ≤ length names) (r : SentenceRead text before s table) where
    abbrev t : Program
    t = r.program

    stands : ProgramAt v t s.root
    stands = let P : List Word → Type 0 = λ ws. ProgramAt (record { words = ws; nodes = nodes table }) t s.root in subst P (sym r.kept) r.held

    derives : Sentence 32 v.words t
    derives = let P : List Word → Type 0 = λ ws. Sentence 32 ws t in subst P (sym r.kept) (sentence 32 (length text) r.found t r.outcome)

    short : length v.words ≤ 500
    short =
        let a : length v.words ≡ length r.found = ap length r.kept in
        let b : s.words ≡ length r.found = r.count in
        let d : s.words ≤ 500 = r.few in
        omega arith

    full : Filled v table' names' (symbols t) (occurrences t) (fors t) filled
    full = fills.filled 32 t derives stands short room

    small : SmallTable (symbols t)
    small = small_tables 32 v.words t derives short

    places : HoldsPlaces v table'
    places = places_held v text s.words table' (ap (λ (ws : List WordRecord). map (word_in text) (take s.words ws)) (sym fills.words))

    -- The offences found over the first lines of the name table are those of the tree.
    pub offences_are : (used : ℕ) → used ≡ min filled.lines (length names') → (lines : List NameRecord) → lines ≡ take used names' → (o : Offences)
        → ((w : View) (ls : List NameRecord) (p : Program) → Filled w table' ls (symbols p) (occurrences p) (fors p) filled → lines ≡ take filled.lines ls → HoldsPlaces w table' → SmallTable (symbols p) → ProgramAt w p s.root → OffencesOf p o)
        → OffencesOf t o
    offences_are used e lines f o g =
        let cut : lines ≡ take filled.lines names' = f ∙ (ap (λ (k : ℕ). take k names') e ∙ take_min filled.lines names') in
        g v names' t full cut places small stands

    -- What is told of the text is what is told of its tree.
    told : (w : Verdict) → w ≡ verdict t → answer text ≡ of_verdict t w
    told w e =
        ap (of_words (length text)) r.cut
        ∙ (ap of_sentence r.outcome ∙ ap (of_verdict t) (sym e))

    pub refuses : (b : Broken) → verdict_in (Some b) ≡ verdict t → answer text ≡ refused (number b.rule) b.place
    refuses b e = told (names_refused b.rule b.place) e

    pub accepts : (hidden : ℕ) → hidden ≡ filled.cells - filled.named_cells → verdict_in None ≡ verdict t
        → TextRead text (record { root = s.root; words = s.words; lines = filled.lines; named = filled.named_cells; hidden = hidden }) table' names'
    accepts hidden h e =
        let V : List Word → List Node → View = λ ws ns. record { words = ws; nodes = ns } in
        let same : v ≡ view r.found table' = ap (λ (ws : List Word). V ws (nodes table)) r.kept ∙ ap (λ (ns : List Node). V r.found ns) (sym fills.nodes) in
        let T : View → Type 0 = λ w. ProgramAt w t s.root in
        let H : View → Type 0 = λ w. HoldsSymbols w table' (take filled.lines names') (symbols t) in
        let P : View → Type 0 = λ w. HoldsPlaces w table' in
        let enough : named_cells (symbols t) + hidden_cells t ≤ 2048 = enough_cells t (sym e) in
        let count : filled.lines ≡ length (symbols t) = full.count in
        let few : length (symbols t) ≤ 256 = small.few in
        let cells : filled.cells ≡ min (named_cells (symbols t) + length (fors t)) 2049 = full.cells in
        let named : filled.named_cells ≡ named_cells (symbols t) = full.named in
        record {
          program = t;
          is_accepted = told names_accepted e;
          found = r.found;
          cut = r.cut;
          words_told = r.count;
          few_words = let a : s.words ≡ length r.found = r.count in let b : s.words ≤ 500 = r.few in omega arith;
          tree = subst T same stands;
          table = subst H same full.table;
          places = subst P same places;
          lines_told = count;
          few_lines = omega arith;
          named_told = named;
          hidden_told = omega arith;
        }
