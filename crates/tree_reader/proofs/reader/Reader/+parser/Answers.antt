use Rattle.std.proofs.Common.{◌≡◌, ◌+◌, ◌-◌, ◌<◌, Ok, sym, ◌∙◌, arith}
use Rattle.std.proofs.lemmas.Result.{err_from_is_err_and}
use Rattle.vert_grammar.specs.Reading.{rest, tree_at}
use Rattle.vert_tree.specs.Views.{view}
use Rattle.tree_reader.specs.Signs.{Fails, plain}
use Rattle.tree_reader.proofs.Steps.{again, depth_pos, layer_fails, chain_starts, chain_done, chain_refuses_second, chain_too_deep, chain_operand_fails, chain_goes_on, choice_first_fails, choice_mark_fails, choice_second_fails, choice_read}
use Rattle.tree_reader.proofs.reader.Reader.+parser.Goals as goal

pub binary-returns-in_err-left-clause-read : goal.binary-returns-in_err-left-clause-read
binary-returns-in_err-left-clause-read t c =
    let names = c.args.self.now.names.items in
    let p = err_from_is_err_and c.from_residual.result c.from_residual.ensures.1 in
    rw (p.1, p.2) (layer_fails names c.args.room c.args.layer c.in_err-left.field-0.0 (plain names c.args.tokens.now)
    (omega arith) c.requires.layer c.in_err-left.ensures.read)

pub binary-chain-init : goal.binary-chain-init
binary-chain-init t c = chain_starts c.args.room c.args.layer (plain c.args.self.now.names.items c.args.tokens.now) _
    _ _ (omega arith) c.requires.layer c.in_ok-left.ensures.read c.in_ok-left.ensures.depth c.in_ok-left.ensures.fits

pub binary-returns-clause-read : goal.binary-returns-clause-read
binary-returns-clause-read t c = chain_done c.args.room c.args.layer
    (plain c.args.self.now.names.items c.args.tokens.now) _ _ _ c.chain.invariant c.requires.layer (λ e.
    c.chain-test.false (c.layer_ahead.ensures ∙ e))

pub binary-returns-then-chains_comparison-clause-read : goal.binary-returns-then-chains_comparison-clause-read
binary-returns-then-chains_comparison-clause-read t c =
    chain_refuses_second c.args.room (plain c.args.self.now.names.items c.args.tokens.now) _ _ c.args.layer _
    c.chain.invariant c.requires.layer (sym c.layer_ahead.ensures ∙ c.chain-test.true)
    (sym c.chains_comparison.ensures ∙ c.if-chains_comparison.true)

pub binary-returns-then-room-depth-clause-read : goal.binary-returns-then-room-depth-clause-read
binary-returns-then-room-depth-clause-read t c =
    chain_too_deep c.args.room (plain c.args.self.now.names.items c.args.tokens.now) _ _ c.args.layer _
    c.chain.invariant c.requires.layer (sym c.layer_ahead.ensures ∙ c.chain-test.true)
    (sym c.chains_comparison.ensures ∙ c.if-chains_comparison.false) c.if-room-depth.true

pub binary-returns-in_err-right-clause-read : goal.binary-returns-in_err-right-clause-read
binary-returns-in_err-right-clause-read t c =
    let names = c.args.self.now.names.items in
    let p = err_from_is_err_and c.from_residual-in_err-right.result c.from_residual-in_err-right.ensures.1 in
    let pos : 0 < c.args.room = (let d = depth_pos (view names c.chain.left) in
    let g = c.chain.invariant.depth_is in omega (arith, c.if-room-depth.false)) in
    let f : Fails names c.in_err-right.field-0.0
    (tree_at c.args.room (c.args.layer - 1) (rest (plain names c.chain.tokens.now))) = rw
    (← again c.args.room (c.args.layer - 1) pos, ← c.rest.ensures) c.in_err-right.ensures.read in
    rw (p.1, p.2)
    (chain_operand_fails names c.args.room (plain names c.args.tokens.now) _ _ c.if-room-depth.false c.args.layer _
    c.in_err-right.field-0.0 c.chain.invariant c.requires.layer (sym c.layer_ahead.ensures ∙ c.chain-test.true)
    (sym c.chains_comparison.ensures ∙ c.if-chains_comparison.false) f)

pub binary-chain-preserved : goal.binary-chain-preserved
binary-chain-preserved t c =
    let names = c.args.self.now.names.items in
    let pos : 0 < c.args.room = (let d = depth_pos (view names c.chain.left) in
    let g = c.chain.invariant.depth_is in omega (arith, c.if-room-depth.false)) in
    let f : tree_at c.args.room (c.args.layer - 1) (rest (plain names c.chain.tokens.now))
    ≡ Ok (view names c.in_ok-right.right, plain names c.in_ok-right.after.now) = rw
    (← again c.args.room (c.args.layer - 1) pos, ← c.rest.ensures) c.in_ok-right.ensures.read in
    rw (c.in_ok-left-2.ensures, c.deeper-depth.ensures, c.operator-op.ensures)
    (chain_goes_on c.args.room (plain names c.args.tokens.now) _ _ _ _ _ c.if-room-depth.false
    c.in_ok-right.ensures.depth c.args.layer _ c.chain.invariant c.requires.layer (sym c.layer_ahead.ensures ∙
    c.chain-test.true) (sym c.chains_comparison.ensures
    ∙ c.if-chains_comparison.false) f
    (let g = c.in_ok-right.ensures.fits in omega arith))

pub expression-returns-in_err-held-clause-read : goal.expression-returns-in_err-held-clause-read
expression-returns-in_err-held-clause-read t c =
    let names = c.args.self.now.names.items in
    let p = err_from_is_err_and c.from_residual-in_err-held.result c.from_residual-in_err-held.ensures.1 in
    let pos : 0 < c.args.room = omega (
      arith,
      depth_pos (view names c.in_ok-test.test),
      c.in_ok-test.ensures.depth,
      c.if-room-depth.false,
    ) in
    let f : Fails names c.in_err-held.field-0.0
    (tree_at (c.args.room - 1 + 1) 6 (rest (plain names c.in_ok-test.tokens.now))) = rw (← c.rest.ensures)
    c.in_err-held.ensures.read in
    rw (p.1, p.2)
    (choice_first_fails names c.args.room (plain names c.args.tokens.now) _ _ c.in_err-held.field-0.0
    c.in_ok-test.ensures.read (sym c.begins_mark.ensures ∙ c.if-not-begins_mark.false)
    (omega (arith, c.in_ok-test.ensures.depth, c.if-room-depth.false)) pos f)

pub expression-returns-in_err-tokens-clause-read : goal.expression-returns-in_err-tokens-clause-read
expression-returns-in_err-tokens-clause-read t c =
    let names = c.args.self.now.names.items in
    let p = err_from_is_err_and c.from_residual-in_err-tokens.result c.from_residual-in_err-tokens.ensures.1 in
    let pos : 0 < c.args.room = omega (
      arith,
      depth_pos (view names c.in_ok-test.test),
      c.in_ok-test.ensures.depth,
      c.if-room-depth.false,
    ) in
    let f : tree_at (c.args.room - 1 + 1) 6 (rest (plain names c.in_ok-test.tokens.now))
    ≡ Ok (view names c.in_ok-held.held, plain names c.in_ok-held.tokens.now) = rw (← c.rest.ensures)
    c.in_ok-held.ensures.read in
    rw (p.1, p.2)
    (choice_mark_fails names c.args.room (plain names c.args.tokens.now) _ _ _ _ c.in_err-tokens.field-0.0
    c.in_ok-test.ensures.read (sym c.begins_mark.ensures ∙ c.if-not-begins_mark.false)
    (omega (arith, c.in_ok-test.ensures.depth, c.if-room-depth.false)) pos f c.in_err-tokens.ensures)

pub expression-overflow_sub-room-2 : goal.expression-overflow_sub-room-2
expression-overflow_sub-room-2 t c = omega (
  arith,
  depth_pos (view c.args.self.now.names.items c.in_ok-test.test),
  c.in_ok-test.ensures.depth,
  c.if-room-depth.false,
)

pub expression-expression-requires-2 : goal.expression-expression-requires-2
expression-expression-requires-2 t c =
    let pos : 0 < c.args.room = omega (
      arith,
      depth_pos (view c.args.self.now.names.items c.in_ok-test.test),
      c.in_ok-test.ensures.depth,
      c.if-room-depth.false,
    ) in
    (omega arith, omega arith)

pub expression-returns-in_err-otherwise-clause-read : goal.expression-returns-in_err-otherwise-clause-read
expression-returns-in_err-otherwise-clause-read t c =
    let names = c.args.self.now.names.items in
    let p = err_from_is_err_and c.from_residual-in_err-otherwise.result c.from_residual-in_err-otherwise.ensures.1 in
    let pos : 0 < c.args.room = omega (
      arith,
      depth_pos (view names c.in_ok-test.test),
      c.in_ok-test.ensures.depth,
      c.if-room-depth.false,
    ) in
    let f : tree_at (c.args.room - 1 + 1) 6 (rest (plain names c.in_ok-test.tokens.now))
    ≡ Ok (view names c.in_ok-held.held, plain names c.in_ok-held.tokens.now) = rw (← c.rest.ensures)
    c.in_ok-held.ensures.read in
    rw (p.1, p.2)
    (choice_second_fails names c.args.room (plain names c.args.tokens.now) _ _ _ _ _ _ c.in_err-otherwise.field-0.0
    c.in_ok-test.ensures.read (sym c.begins_mark.ensures ∙ c.if-not-begins_mark.false)
    (omega (arith, c.in_ok-test.ensures.depth, c.if-room-depth.false)) pos f c.in_ok-tokens.ensures
    c.in_err-otherwise.ensures.read)

pub expression-returns-clause-read : goal.expression-returns-clause-read
expression-returns-clause-read t c =
    let names = c.args.self.now.names.items in
    let pos : 0 < c.args.room = omega (
      arith,
      depth_pos (view names c.in_ok-test.test),
      c.in_ok-test.ensures.depth,
      c.if-room-depth.false,
    ) in
    let f : tree_at (c.args.room - 1 + 1) 6 (rest (plain names c.in_ok-test.tokens.now))
    ≡ Ok (view names c.in_ok-held.held, plain names c.in_ok-held.tokens.now) = rw (← c.rest.ensures)
    c.in_ok-held.ensures.read in
    rw c.in_ok-make_choice.ensures
    (choice_read c.args.room (plain names c.args.tokens.now) _ _ _ _ _ _ _ _ c.in_ok-test.ensures.read
    (sym c.begins_mark.ensures ∙ c.if-not-begins_mark.false)
    (omega (arith, c.in_ok-test.ensures.depth, c.if-room-depth.false)) pos f c.in_ok-tokens.ensures
    c.in_ok-otherwise.ensures.read)

pub expression-returns-clause-fits : goal.expression-returns-clause-fits
expression-returns-clause-fits t c = omega (
  arith,
  c.deeper.ensures,
  c.deeper-depth.ensures,
  c.in_ok-held.ensures.fits,
  c.in_ok-otherwise.ensures.fits,
  depth_pos (view c.args.self.now.names.items c.in_ok-test.test),
  c.in_ok-test.ensures.depth,
)
