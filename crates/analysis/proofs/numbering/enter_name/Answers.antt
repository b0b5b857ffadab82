use Rattle.std.proofs.Common.{◌≡◌, ℕ, ◌-◌, List, map, take, None, Option, sym, ap, ◌∙◌, arith}
use Rattle.std.proofs.lemmas.List.{set_past}
use Rattle.analysis.specs.LineSearch.{line_from, line_letters}
use Rattle.analysis.specs.Numbering.{number_or, lines_with, found_line, new_line}
use Rattle.analysis.proofs.numbering.enter_name.Goals as goal

pub returns-else-n-names : goal.returns-else-n-names
returns-else-n-names c =
    let a : c.args.n - 0 ≡ c.args.n = omega arith in
    let f : None ≡ found_line c.args.text.now c.args.records.now c.args.w c.args.names.now c.args.n =
    c.in-None.ensures
    ∙ (ap (λ (k : ℕ). line_from 0 c.letters_of-sought.result.now (map (line_letters c.args.text.now c.args.records.now) (take k c.args.names.now))) a
    ∙ ap (λ (l : List ℕ). line_from 0 l (map (line_letters c.args.text.now c.args.records.now) (take c.args.n c.args.names.now))) c.letters_of-sought.ensures) in
    record {
      number = ap (λ (o : Option ℕ). number_or c.args.n o) f;
      lines = sym (set_past c.args.names.now c.args.n (new_line c.args.w) c.if-n-names.false) ∙ ap (λ (o : Option ℕ). lines_with c.args.names.now c.args.w c.args.n o) f;
    }
