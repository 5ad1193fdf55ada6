use Rattle.std.proofs.Common.{rules, sym, ◌∙◌, arith}
use Rattle.std.proofs.lemmas.List.Folds.{list_all-map}
use Rattle.vert_tree.specs.declared.statement.Stmt.TheFolds.{the_lemmas}
use Rattle.vert_eval.specs.Runs.{act_of}
use Rattle.plain_run.proofs.RunLaws.{turn_ends, SameEnd-trans, SameCounts-trans}
use Rattle.plain_run.proofs.run.+run.Goals as goal

pub run_body-loop-stmt-preserved : goal.run_body-loop-stmt-preserved
run_body-loop-stmt-preserved t c =
    let l = c.loop-stmt in
    let h = c.run_stmt.ensures in
    let ends = turn_ends act_of c.args.body.now l.stmt-index c.stmt-item.result l.env (omega arith) c.stmt-item.is
    c.run_stmt.new.env l.emits.slots.items c.run_stmt.new.emits.slots.items h.env (sym c.in-Going.is ∙ h.flow)
    h.emits h.kept.key in
    record {
      ends = SameEnd-trans _ _ _ _ _ _ _ _ _ ends l.invariant.ends;
      kept = SameCounts-trans _ _ _ l.invariant.kept h.kept;
      partials = h.partials ∙ l.invariant.partials;
    }

pub run_stmt-run_body-requires : goal.run_stmt-run_body-requires
run_stmt-run_body-requires t c = (
  search (rules, the_lemmas),
  ((c.requires.names.0, search (rules, the_lemmas, list_all-map)), (c.requires.draws, c.requires.partials)),
)

pub run_stmt-run_body-requires-in-Some : goal.run_stmt-run_body-requires-in-Some
run_stmt-run_body-requires-in-Some t c = (
  search (rules, the_lemmas),
  ((c.requires.names.0, search (rules, the_lemmas, list_all-map)), (c.requires.draws, c.requires.partials)),
)
