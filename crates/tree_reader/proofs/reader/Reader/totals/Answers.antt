use Rattle.std.proofs.Common.{◌≡◌, ◌+◌, ◌-◌, ◌∷◌, [], ◌++◌, map, vec_len, sym, ◌∙◌, arith}
use Rattle.std.proofs.lemmas.Result.{err_from_is_err_and}
use Rattle.std.proofs.lemmas.List.{map_push}
use Rattle.vert_grammar.specs.Reading.{is_total, total_at}
use Rattle.vert_tree.specs.Views.{view_total}
use Rattle.tree_reader.specs.Signs.{plain}
use Rattle.tree_reader.proofs.Loops.{goes_on, fails, is_full, is_over}
use Rattle.tree_reader.proofs.reader.Reader.totals.Goals as goal

pub returns-then-len-eq-TOTALS : goal.returns-then-len-eq-TOTALS
returns-then-len-eq-TOTALS c =
    is_full (is_total c.args.version) (total_at 64)
    (map (view_total c.args.self.now.names.items) c.totals.totals.items) _
    (plain c.args.self.now.names.items c.totals.tokens.now) _ (omega arith) (sym c.may_text.ensures
    ∙ c.totals-test.true) c.totals.invariant.read

pub returns-in_err-total : goal.returns-in_err-total
returns-in_err-total c =
    let names = c.args.self.now.names.items in
    let p = err_from_is_err_and c.from_residual.result c.from_residual.ensures.1 in
    rw (p.1, p.2)
    (fails (is_total c.args.version) (total_at 64) (map (view_total names) c.totals.totals.items) _
    (plain names c.totals.tokens.now) names _ (4 - (vec_len c.totals.totals + 1)) c.in_err-total.field-0.0
    (let g = c.totals.invariant.few in omega arith) (sym c.may_text.ensures ∙ c.totals-test.true)
    c.in_err-total.ensures c.totals.invariant.read)

pub totals-preserved : goal.totals-preserved
totals-preserved c =
    let names = c.args.self.now.names.items in
    let e : map (view_total names) c.push.new.self.items ≡ map (view_total names) c.totals.totals.items
    ++ view_total names c.in_ok-total.total
    ∷ [] = rw c.in_ok-push.ensures.items (map_push _ c.totals.totals.items c.in_ok-total.total) in
    record {
      few = (let g = c.totals.invariant.few in omega (arith, c.in_ok-push.ensures.len));
      read = rw e (goes_on (is_total c.args.version) (total_at 64) (map (view_total names) c.totals.totals.items) _
          (plain names c.totals.tokens.now) _ (4 - vec_len c.push.new.self) _ _ (let g = c.totals.invariant.few in
          omega (arith, c.in_ok-push.ensures.len)) (sym c.may_text.ensures ∙ c.totals-test.true) c.in_ok-total.ensures
          c.totals.invariant.read);
    }

pub returns : goal.returns
returns c =
    is_over (is_total c.args.version) (total_at 64)
    (map (view_total c.args.self.now.names.items) c.totals.totals.items) _
    (plain c.args.self.now.names.items c.totals.tokens.now) _ (sym c.may_text.ensures ∙ c.totals-test.false)
    c.totals.invariant.read
