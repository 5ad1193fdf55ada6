-- The tail at a vertex, put together from what its steps do.
use Rattle.std.proofs.Common.{◌≡◌, ◌++◌, ℤ, Bool, true, ◌&&◌, List, [], ◌∷◌, length, refl, sym, ap, ◌∙◌, Some}
use Rattle.std.specs.Prelude.{if◌then◌else◌}
use Rattle.std.proofs.lemmas.Bool.{and_parts}
use Rattle.carry_analysis.specs.declared.classes.Class.{Class}
use Rattle.slot_merge.specs.declared.partial.Partial.{Partial}
use Rattle.slot_merge.specs.Partials.{with_emissions}
use Rattle.vert_tree.specs.declared.program.Decl.{Decl}
use Rattle.vert_tree.specs.declared.program.Dense.{Dense}
use Rattle.vert_tree.specs.declared.program.Program.{Program}
use Rattle.vert_tree.specs.Places.{Counts, body_placed, dense_placed, expr_placed, lets_placed, loop_rights, round_counts, tail_rights}
use Rattle.vert_eval.specs.declared.environment.Env.{Env}
use Rattle.vert_eval.specs.Rounds.{with_lets}
use Rattle.vert_eval.specs.Runs.{run}
use Rattle.vert_eval.specs.Values.{counts_of, value_of}
use Rattle.vert_eval.specs.Words.{is_set}
use Rattle.vert_code.specs.declared.code.Code.{Code}
use Rattle.vert_code.specs.declared.instr.Block.TheVariants.{Tail}
use Rattle.vert_code.specs.Blocks.{lets_in, list_of, tail_body}
use Rattle.vert_code.specs.Machine.{run_code}
use Rattle.vert_code.specs.Valid.{list_names}
use Rattle.instrument.specs.Loops.{loop_split}
use Rattle.symple_face.specs.CoreClose.{values_of}
use Rattle.symple_face.specs.Ring.{closing}
use Rattle.vertex_work.specs.Tails.{IsCodeOf, closing_env, tail_slots}
use Rattle.round_laws.proofs.DenseClose.{only_locals}

-- the test and the lets of a dense block have their places
module _ (c : Counts) (d : Dense) (h : dense_placed c d ≡ true) where
  abbrev inner : Counts
  inner = record c { locals = length d.lets.items }

  abbrev bodies : Bool
  bodies = body_placed loop_rights inner d.body.items && body_placed tail_rights inner d.tail.items

  pub test_placed : expr_placed c d.when_test ≡ true
  test_placed = (and_parts (expr_placed c d.when_test) (lets_placed c d.lets.items && bodies) h).0

  pub lets_stand : lets_placed c d.lets.items ≡ true
  lets_stand =
      (and_parts (lets_placed c d.lets.items) bodies
      (and_parts (expr_placed c d.when_test) (lets_placed c d.lets.items && bodies) h).1).0

-- own lets, over which the words for the tail were written
module _ (d : Dense) (decls : List Decl) (carried : List ℤ) (qs : List Partial) (cs : List Class)
    (env cleared added : Env) (words : List ℤ) where
  pub lets_closed : cleared ≡ record env { locals = record { items = [] } } → decls ≡ d.lets.items →
      added ≡ with_lets decls cleared → cs ≡ (loop_split d).classes.locals.items →
      words ≡ closing cs added.locals.items carried (values_of qs) →
      record added { locals = record { items = words } } ≡ closing_env d carried qs env
  lets_closed e el ea ec ew =
      let bare : Env = record env { locals = record { items = [] } } in
      let own : added ≡ with_lets d.lets.items bare =
      ea ∙ ap (λ ds. with_lets ds cleared) el ∙ ap (with_lets d.lets.items) e in
      let put : List ℤ → Env → Env = λ ws x. record x { locals = record { items = ws } } in
      ap (put words) (own ∙ only_locals d.lets.items bare)
      ∙ ap (λ ws. put ws env)
      (ew ∙ ap (λ c. closing c added.locals.items carried (values_of qs)) ec
      ∙ ap (λ (x : Env). closing (loop_split d).classes.locals.items x.locals.items carried (values_of qs)) own)

module _ (p : Program) (code : Code) (d : Dense) (block : p.dense ≡ Some d) (is : IsCodeOf p code) where
  -- the list of the tail finds its names
  pub tail_names : (old closed : Env) → counts_of old ≡ round_counts p →
      counts_of closed ≡ record (counts_of old) { locals = length d.lets.items } →
      list_names (counts_of closed) (list_of code Tail) ≡ true
  tail_names old closed e h =
      let more : Counts → Counts = λ k. record k { locals = length d.lets.items } in
      ap (λ k. list_names k (list_of code Tail))
      (h ∙ ap more e ∙ ap (λ o. let c : Counts = record (round_counts p) { locals = lets_in o } in c) (sym block))
      ∙ is.names Tail

  -- and emits what the tail does
  module _ (carried : List ℤ) (qs : List Partial) (env closed : Env) (slots new : List Partial) where
    pub tail_ran : closed ≡ closing_env d carried qs env → is_set (value_of d.when_test env) ≡ true →
        new ≡ with_emissions closed.key slots (run_code (list_of code Tail) closed).emitted →
        new ≡ tail_slots d carried qs env slots
    tail_ran e test h =
        h
        ∙ ap (λ r. with_emissions closed.key slots r.emitted)
        (is.runs Tail closed ∙ ap (λ o. run (tail_body o) closed) block)
        ∙ ap (λ (x : Env). with_emissions x.key slots (run d.tail.items x).emitted) e
        ∙ ap (λ b. if b then with_emissions env.key slots (run d.tail.items (closing_env d carried qs env)).emitted
        else slots) (sym test)
