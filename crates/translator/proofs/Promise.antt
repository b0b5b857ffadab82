-- The promise is kept by the tree of every accepted text.
use Rattle.std.proofs.Common.{◌≡◌, ℕ, ◌+◌, ◌≤◌, Bool, true, cond, ◌||◌, List, length, take, drop, is_some, Some, None, Option, sym, refl, ap, ◌∙◌, subst, arith}
use Rattle.std.proofs.lemmas.List.{length-drop, length-take-le, take-append-drop, take_at}
use Rattle.std.specs.List.{slice_get}
use Rattle.grammar.specs.Tree.{Statement, Program}
use Rattle.symbols.specs.Symbols.{symbols, named_cells}
use Rattle.figures.specs.Kinds.{Kind, Counts, Tells}
use Rattle.code.specs.declared.operations.Operation.TheVariants.{Halt}
use Rattle.code.specs.declared.sizes.Sizes.{Sizes}
use Rattle.code.specs.WellFormed.{WellFormed}
use Rattle.code.proofs.Passing.{passes_to_well_formed}
use Rattle.symbols.specs.Texts.{answer, accepted}
use Rattle.meaning.specs.Names.{names_of}
use Rattle.meaning.specs.Positions.{nothing, beginning, enter, statements}
use Rattle.meaning.specs.Machine as text
use Rattle.meaning.specs.Runs.{initial, Steps, no_step}
use Rattle.machine.specs.Histories.{History, Started, tried}
use Rattle.machine.specs.Runs as calls
use Rattle.machine.specs.Runs.{Run, at_halt, ended, run, standing}
use Rattle.machine.specs.Steps.{halts}
use Rattle.machine.proofs.Advancing.{ended_runs}
use Rattle.machine.proofs.Laws.{histories_sound}
use Rattle.translator.specs.Generator.{plain}
use Rattle.translator.specs.Translation.{entries, entries_of, sizes_of, text_loops, translated}
use Rattle.translator.specs.Simulation.{spread}
use Rattle.translator.specs.Compiled.{ends}
use Rattle.translator.specs.Agreement.{Setting}
use Rattle.translator.specs.Promise.{KeepsPromise, Promise, PromiseLaw, TextSteps, named_figures, roll_left, text_next, text_start}
use Rattle.translator.proofs.AcceptedCode.{text_setting, accepted_code}
use Rattle.translator.proofs.Alongside.{Beside, run_at, runs_beside, told_at}
use Rattle.translator.proofs.Bridge.{operation_there}
use Rattle.translator.proofs.Placing.{placing_law}
use Rattle.translator.proofs.Telling.{Told, of_end, asked_is, end_told, nth_in_front, told_end, told_fault, told_going}

module _ {V : Type 0} (kind : Kind V) (t : Program) (first : Run V) where
  abbrev v : ℕ
  v = named_cells (symbols t)

  -- A run of the code matches the statement machine after as many steps as it counts.
  record Matches (now : Run V) : Type 0 where
    state : text.State V
    hidden : List V
    unposted : List V
    memory : now.memory ≡ spread state.memory hidden unposted
    named : length state.memory.cells ≡ v
    steps : TextSteps kind t first now.progress.count state
    told : Told (standing now.progress now.progress.fault) (text_next kind t state)

  module _ (w : WellFormed (translated t)) (s : Started (translated t) first) (wide : length first.memory.cells ≡ (translated t).sizes.cells) where
    -- Each sentence of the promise, by what matches and by what holds of every history.
    matches_to_promise : (answers : List ℕ) (now : Run V) → History kind first answers now → Matches now → Promise kind t first answers now
    unfolding translated
    matches_to_promise answers now h q =
        let sound = histories_sound kind (translated t) w first now answers s h in
        record {
          counted = sound.counted;
          answers_in_full = sound.answers_in_full;
          state = q.state;
          steps = q.steps;
          same_cells = ap (λ m. take v m.cells) q.memory ∙ take_at q.state.memory.cells q.hidden v q.named;
          same_posted = ap (λ m. take m.posted m.book) q.memory ∙ take_at q.state.memory.posted q.unposted _ refl;
          posted_told = ap (λ m. m.posted) q.memory;
          same_roll = ap (λ m. m.roll) q.memory;
          asks_alike = λ i x a.
              let is = asked_is now.progress.code now.memory.cells i x a in
              let below = is.0 in
              let size : now.progress.code.sizes.named ≡ v = ap (λ c. c.sizes.named) sound.same_code in
              let long = q.named in
              sym (nth_in_front q.state.memory.cells q.hidden i (omega arith)) ∙ ap (λ m. slice_get m.cells i) (sym q.memory) ∙ is.1;
          end_told = end_told q.told;
          told_end = told_end q.told;
          told_fault = told_fault q.told;
          told_going = told_going q.told;
        }

    -- There are v named cells at the start.
    long_enough : length (named_figures t first) ≡ v
    unfolding translated
    long_enough = length-take-le v first.memory.cells (omega (arith, wide))

    -- The memory at the start: hidden cells and the book hold what they hold.
    first_memory : (o : Option Statement) → first.memory ≡ spread (initial o (named_figures t first) (roll_left first) (length first.memory.book)).memory (drop v first.memory.cells) first.memory.book
    first_memory o = λ i. record {
      cells = sym (take-append-drop v first.memory.cells) i;
      book = first.memory.book;
      posted = s.posted i;
      roll = first.memory.roll;
    }

    -- A text without a statement: its code begins with the HALT, so the run is at its end when it starts, as the text is.
    module _ (none : statements t ≡ None) where
      starts_at_halt : at_halt first.progress ≡ true
      unfolding translated
      starts_at_halt =
          ap (λ p. at_halt p) s.progress ∙ ap halts (operation_there 0 (entries t) (plain Halt) _ (ap (λ o. entries_of (symbols t) o) none))

      first_matches : Matches first
      first_matches = record {
        state = text_start kind t first;
        hidden = drop v first.memory.cells;
        unposted = first.memory.book;
        memory = first_memory (statements t);
        named = long_enough;
        steps = subst (λ (n : ℕ). TextSteps kind t first n (text_start kind t first)) (sym (ap (λ p. p.count) s.progress)) no_step;
        told = of_end
            (ap (λ o. standing first.progress o) (ap (λ p. p.fault) s.progress) ∙ ap (λ b. cond b calls.at_end calls.goes_on) starts_at_halt)
            (ap (λ o. text.step_at kind (names_of t) (statements t) (text_start kind t first).memory (beginning o)) none);
      }

      -- A run that has ended stays as it is.
      none_matches : (answers : List ℕ) (now : Run V) → History kind first answers now → Matches now
      none_matches answers now h =
          let sound = histories_sound kind (translated t) w first now answers s h in
          let over : ended first.progress ≡ true = ap (λ o. is_some o || at_halt first.progress) (ap (λ p. p.fault) s.progress) ∙ starts_at_halt in
          subst Matches (sym (sound.exact_run ∙ ended_runs kind (tried now.progress) first over)) first_matches

    -- A text with a statement: both runs begin at its first step, and stay beside each other.
    module _ (root : Statement) (some : statements t ≡ Some root) (label_at table_at : List ℕ → ℕ) (halt_at : ℕ) (outer : List ℕ → Bool)
        (setting : Setting kind (entries t) (names_of t) label_at table_at halt_at v (v + text_loops (names_of t) (statements t)) outer root) where
      abbrev sizes : Sizes
      sizes = sizes_of (symbols t) (statements t) (entries t)

      abbrev all : ℕ
      all = v + text_loops (names_of t) (statements t)

      abbrev start : text.State V
      start = initial (Some root) (named_figures t first) (roll_left first) (length first.memory.book)

      abbrev Alongside : Run V → Type 0
      Alongside = Beside kind (entries t) (names_of t) label_at table_at halt_at v all outer root sizes start

      first_beside : Alongside first
      unfolding translated
      first_beside =
          let there = wide in
          record {
            place = 0;
            count = 0;
            fault = None;
            memory = start.memory;
            position = enter root nothing;
            hidden = drop v first.memory.cells;
            unposted = first.memory.book;
            is = λ i. record { progress = s.progress i; memory = first_memory (Some root) i };
            steps = no_step;
            valid = record { named = long_enough; all = omega (arith, length-drop v first.memory.cells); room = omega arith };
            stands =
                (placing_law kind).enters (entries t) (names_of t) label_at table_at halt_at v all outer root {hb = v}
                setting.whole (omega arith) (ends refl refl);
            known = tt;
          }

      -- A run beside the text's run matches it.
      beside_to_matches : (now : Run V) → Alongside now → Matches now
      unfolding translated
      beside_to_matches now b =
          let here = run_at kind (entries t) (names_of t) label_at table_at halt_at v all outer root sizes start b.place b.count b.fault (spread b.memory b.hidden b.unposted) in
          let state = text.state b.memory b.position in
          subst Matches (sym b.is)
          (record {
            state = state;
            hidden = b.hidden;
            unposted = b.unposted;
            memory = refl;
            named = b.valid.named;
            steps = subst (λ (o : Option Statement). Steps kind (names_of t) o (initial o (named_figures t first) (roll_left first) (length first.memory.book)) b.count state) (sym some) b.steps;
            told = subst (λ (o : Option Statement). Told (standing here.progress b.fault) (text.step kind (names_of t) o state)) (sym some)
                (told_at kind (entries t) (names_of t) label_at table_at halt_at v all outer root sizes start setting w refl
                b.place b.count b.memory b.position b.hidden b.unposted b.steps b.valid b.stands b.fault b.known);
          })

      -- A history made the steps of one run.
      some_matches : (answers : List ℕ) (now : Run V) → History kind first answers now → Matches now
      unfolding translated
      some_matches answers now h =
          let sound = histories_sound kind (translated t) w first now answers s h in
          let n = tried now.progress in
          subst Matches (sym sound.exact_run)
          (beside_to_matches (run kind n first)
          (runs_beside kind (entries t) (names_of t) label_at table_at halt_at v all outer root sizes start setting w refl n first first_beside))

module _ {V : Type 0} (kind : Kind V) (counts : (n : ℕ) → n ≤ 2048 → Counts kind n) (tells : Tells kind) where
  -- The promise of a text, with and without statements.
  text_promise : (bytes : List ℕ) (t : Program) → answer bytes ≡ accepted t → KeepsPromise kind t
  text_promise bytes t ok first now answers s wide h = by_text (statements t) refl
    where
      w : WellFormed (translated t)
      w = (accepted_code kind counts tells bytes t ok).well_formed

      by_text : (o : Option Statement) → statements t ≡ o → Promise kind t first answers now
      by_text None e = matches_to_promise kind t first w s wide answers now h (none_matches kind t first w s wide e answers now h)
      by_text (Some root) e =
          matches_to_promise kind t first w s wide answers now h
          (some_matches kind t first w s wide root e _ _ _ _ (text_setting kind counts tells bytes t ok root e) answers now h)

  pub promise_law : PromiseLaw kind
  promise_law = record {
    code_passes = λ text t ok. (accepted_code kind counts tells text t ok).passes_check;
    texts = text_promise;
    any_code = λ c ok first now answers s h. histories_sound kind c (passes_to_well_formed c ok) first now answers s h;
  }
