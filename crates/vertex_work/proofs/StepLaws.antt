-- A segment of the loop of a vertex.
use Rattle.std.proofs.Common.{◌≡◌, ◌≤◌, ℕ, ℤ, Bool, true, false, List, [], ◌∷◌, length, refl, sym, ap, ◌∙◌, Option, None, Some, option_map, arith}
use Rattle.std.specs.Prelude.{IsTrue, if◌then◌else◌, nat_lt}
use Rattle.std.proofs.lemmas.Bool.{and_parts}
use Rattle.std.proofs.lemmas.Bool.Decides.{nat_tests}
use Rattle.std.proofs.lemmas.Option.{same_Some}
use Rattle.vert_tree.specs.declared.program.Decl.{Decl}
use Rattle.vert_tree.specs.declared.program.Dense.{Dense}
use Rattle.vert_tree.specs.declared.program.Program.{Program}
use Rattle.vert_tree.specs.Places.{Counts, expr_placed, lets_in, lets_placed, round_counts}
use Rattle.vert_tree.proofs.TypedLaws.{dense_stands, few_lets}
use Rattle.vert_eval.specs.declared.environment.Env.{Env}
use Rattle.vert_eval.specs.Frames.{SameFrame, beside}
use Rattle.vert_eval.specs.Rounds.{with_lets}
use Rattle.vert_eval.specs.Values.{counts_of}
use Rattle.vert_code.specs.declared.code.Code.{Code}
use Rattle.vert_code.specs.declared.instr.Block.TheVariants.{Loop}
use Rattle.vert_code.specs.Blocks.{list_of, lets_in as lets_count}
use Rattle.vert_code.specs.Valid.{list_names}
use Rattle.vert_vm.specs.Segments.{counts_at}
use Rattle.carry_analysis.specs.declared.classes.Class.{Class}
use Rattle.carry_analysis.specs.declared.classes.Class.TheVariants.{Constant, Reduced, Carried}
use Rattle.carry_analysis.specs.Classes.{carried_in, carry_in}
use Rattle.instrument.specs.declared.split.Split.{Split}
use Rattle.instrument.specs.declared.split.SplitLoop.{SplitLoop}
use Rattle.instrument.specs.Loops.{loop_split}
use Rattle.instrument.specs.Segments.{begun, given}
use Rattle.instrument.proofs.TypedLaws.{each_class}
use Rattle.instrument.proofs.WordLaws.{length-carried_words}
use Rattle.symple_face.specs.Plans.{loop_carry}
use Rattle.symple_face.specs.Shapes.{words_in}
use Rattle.work_laws.proofs.Scans.{split_dense}
use Rattle.vertex_work.specs.Stepping.{IsLoopOf, SameRound}
use Rattle.state_laws.proofs.Carries.{carry_count}

carried_few : (cs : List Class) → carried_in cs ≤ length cs
carried_few [] = omega arith
carried_few (Carried ∷ cs) = omega (arith, carried_few cs)
carried_few (Constant ∷ cs) = omega (arith, carried_few cs)
carried_few (Reduced op ∷ cs) = omega (arith, carried_few cs)

-- ---- the loop of a program
module _ (code : Code) (split : Split) (d : Dense) (parts : SplitLoop) (is : IsLoopOf code split d parts) where
  abbrev p : Program
  p = split.program.program

  pub split_is : option_map loop_split split.program.program.dense ≡ Some parts
  split_is = sym split.split ∙ is.loop

  pub parts_are : loop_split d ≡ parts
  parts_are = same_Some (loop_split d) parts (sym (split_dense split d is.block) ∙ is.loop)

  pub test_placed : expr_placed (round_counts split.program.program) d.when_test ≡ true
  test_placed =
      (and_parts (expr_placed (round_counts p) d.when_test) _ (dense_stands p split.program.typed d is.block)).0

  pub lets_are_placed : lets_placed (round_counts split.program.program) d.lets.items ≡ true
  lets_are_placed =
      let both = and_parts (expr_placed (round_counts p) d.when_test) _
      (dense_stands p split.program.typed d is.block) in
      (and_parts (lets_placed (round_counts p) d.lets.items) _ both.1).0

  -- each name of the lets has its place
  pub lets_named : (env : Env) → counts_of env ≡ round_counts split.program.program →
      IsTrue (lets_placed (record (counts_of env) { locals = 0 }) (lets_in split.program.program.dense))
  lets_named env counts =
      ap (λ k. let c : Counts = record k { locals = 0 } in lets_placed c (lets_in p.dense)) counts
      ∙ ap (λ o. lets_placed (round_counts p) (lets_in o)) is.block
      ∙ lets_are_placed

  -- a class for each let
  classes_count : length parts.classes.locals.items ≡ length d.lets.items
  classes_count = each_class parts p.dense split_is ∙ ap (λ o. length (lets_in o)) is.block

  -- the carry has a word for each carried let
  pub carry_words : words_in (loop_carry split.dense) ≡ carried_in parts.classes.locals.items
  carry_words =
      ap (λ o. words_in (loop_carry o)) is.loop
      ∙ ap (λ (s : SplitLoop). words_in s.carry) (sym parts_are)
      ∙ carry_count (loop_split d).classes.breaks (loop_split d).classes.locals.items
      ∙ ap (λ (s : SplitLoop). carried_in s.classes.locals.items) parts_are

  -- of which there are few
  pub few_words : words_in (loop_carry split.dense) ≤ 8
  few_words =
      omega (
        arith,
        carry_words,
        carried_few parts.classes.locals.items,
        classes_count,
        few_lets p split.program.typed d is.block,
      )

  pub carried_count : (env : Env) → length env.locals.items ≡ length parts.classes.locals.items →
      length (given parts env) ≡ words_in (loop_carry split.dense)
  carried_count env size =
      length-carried_words parts.classes.locals.items env.locals.items size ∙ sym carry_words

  -- and so has each name of the loop body
  pub body_named : (first env : Env) → counts_of first ≡ round_counts split.program.program →
      counts_of env ≡ record (counts_of first) { locals = length parts.classes.locals.items } →
      list_names (counts_at env) (list_of code Loop) ≡ true
  body_named first env counts begun_counts =
      let widened : Counts → Counts = λ k. record k { other_fields = k.fields } in
      let sized : Counts → ℕ → Counts = λ k n. record k { locals = n } in
      ap (λ k. list_names (widened k) (list_of code Loop))
      (begun_counts ∙ ap (λ k. sized k (length parts.classes.locals.items)) counts)
      ∙ ap (λ n. list_names (widened (sized (round_counts p) n)) (list_of code Loop))
      (classes_count ∙ sym (ap lets_count is.block))
      ∙ is.placed

-- ---- environments
lets_same : (ds : List Decl) (first env : Env) → SameRound first env → SameRound first (with_lets ds env)
lets_same [] first env same = same
lets_same (d ∷ ds) first env same =
    lets_same ds first _ (record {
      n = same.n;
      round = same.round;
      draws = same.draws;
      totals = same.totals;
      slots = same.slots;
    })

lets_key : (ds : List Decl) (env : Env) → (with_lets ds env).key ≡ env.key
lets_key [] env = refl
lets_key (d ∷ ds) env = lets_key ds _

pub begun_key : (parts : SplitLoop) (ds : List Decl) (received : Option (List ℤ)) (env : Env) →
    (begun parts ds received env).key ≡ env.key
begun_key parts ds received env = lets_key ds (record env { locals = record { items = [] } })

-- what a segment begins with is of the same round
pub begun_same : (parts : SplitLoop) (ds : List Decl) (received : Option (List ℤ)) (env : Env) →
    SameRound env (begun parts ds received env)
begun_same parts ds received env =
    let same = lets_same ds env (record env { locals = record { items = [] } }) (record {
      n = refl;
      round = refl;
      draws = refl;
      totals = refl;
      slots = refl;
    }) in
    record { n = same.n; round = same.round; draws = same.draws; totals = same.totals; slots = same.slots }

-- what a run leaves from there on is so too
pub ran_same : (first begun left : Env) → SameRound first begun → SameFrame (beside begun left) left →
    SameRound first left
ran_same first begun left same kept = record {
  n = kept.n ∙ same.n;
  round = kept.round ∙ same.round;
  draws = kept.draws ∙ same.draws;
  totals = kept.totals ∙ same.totals;
  slots = kept.slots ∙ same.slots;
}
