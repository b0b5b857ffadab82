use Rattle.std.proofs.Common.{◌≡◌, ℕ, ◌-◌, ◌≤◌, [], length, take, subst, arith}
use Rattle.grammar.proofs.Names.{few}
use Rattle.parser.specs.Records.{View}
use Rattle.symbols.specs.Occurrences.{occurrences}
use Rattle.symbols.proofs.InText.{names_in_text}
use Rattle.analysis.specs.Lines.{SoFar}
use Rattle.analysis.specs.Numbering.{view_of, names_in}
use Rattle.analysis.specs.Counting.{PlacesCells}
use Rattle.analysis.proofs.NewNames.{few_lines}
use Rattle.analysis.proofs.AllFilled.{written_back, all_filled}
use Rattle.analysis.proofs.fill.fill_names.Goals as goal

pub returns : goal.returns
returns c =
    let v : View = view_of c.args.text.now c.args.records.now c.args.count in
    let n : ℕ = c.number_names-lines.result in
    let P : ℕ → Type 0 = λ k. PlacesCells c.number_names-lines.new.records (take k c.declare_all-second.new.names) c.place_cells-named.new.names c.place_cells-named.result in
    record {
      words = c.number_names-lines.ensures.words;
      nodes = c.number_names-lines.ensures.nodes;
      filled = λ l t sentence h short room.
          let a = few sentence in
          let b = few_lines v.words in
          let fits : length (names_in v) ≤ length c.args.names.now = omega arith in
          let entered = c.number_names-lines.ensures.entered fits in
          let marks = c.declare_all-marked.ensures v (names_in v) (occurrences t) t entered.numbered h in
          let heeds = c.declare_all-second.ensures v (names_in v) (occurrences t) t entered.numbered h in
          let marked : SoFar v (names_in v) (occurrences t) [] c.declare_all-marked.new.names = marks.table [] entered.table in
          let heeded : SoFar v (names_in v) (occurrences t) (occurrences t) c.declare_all-second.new.names = heeds.table [] marked in
          let has = heeded.room in
          let count = entered.line_count in
          let used = c.min-used.ensures in
          let e : c.min-used.result - 0 ≡ n = omega arith in
          let inside : n ≤ length c.declare_all-second.new.names = omega arith in
          let places = subst P e c.place_cells-named.ensures in
          all_filled v c.number_names-lines.new.records t (names_in_text l v.words t sentence) entered.numbered c.declare_all-second.new.names heeded n entered.line_count
          c.place_cells-named.result c.place_cells-named.new.names places _ (written_back c.number_names-lines.new.records c.declare_all-second.new.names c.place_cells-named.new.names _ n c.place_cells-named.result inside places)
          c.count_fors-all.result (c.count_fors-all.ensures v t entered.numbered.nodes h) c.declare_all-second.result (heeds.told [] marked) c.earlier.result c.earlier.ensures;
    }
