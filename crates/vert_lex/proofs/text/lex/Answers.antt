use Rattle.std.proofs.Common.{◌≡◌, ◌<◌, length, take, sym, ap, subst, ◌∙◌, arith, true, refl}
use Rattle.vert_lex.specs.Text.{through, judged}
use Rattle.vert_lex.specs.Tokens.{kind_of}
use Rattle.vert_lex.specs.View.{plain_tokens}
use Rattle.vert_lex.proofs.Longest.{is_token, longest_token}
use Rattle.vert_lex.proofs.Passing.{with_front, push_step, fault_step, no_token, moves, some_left}
use Rattle.vert_lex.proofs.text.lex.Goals as goal

-- a gap is passed
pub text-preserved-then-gap-gt0 : goal.text-preserved-then-gap-gt0
text-preserved-then-gap-gt0 c =
    let rest = c.text.rest.now in
    let i = c.text.invariant in
    let n = c.gap_length-gap.result in
    let s : c.through-span.result ≡ through c.text.span (take n rest) = c.through-span.ensures
    ∙ ap (through c.text.span) c.front.ensures in
    let m = moves c.text.span rest n (length c.args.text.now) c.gap_length-gap.ensures.in_range i.at i.line i.column in
    rw (s, c.skip-rest.ensures) (record {
      at = m.0;
      line = m.1;
      column = m.2;
      read = ap (with_front (plain_tokens c.text.tokens.items))
          (sym (c.gap_length-gap.ensures.passes c.if-gap-gt0.true c.text.span)) ∙ i.read;
    })

-- no token begins here
pub returns-then-length-eq0-clause-refused : goal.returns-then-length-eq0-clause-refused
returns-then-length-eq0-clause-refused c = λ other.
    let rest = c.text.rest.now in
    let none : c.token_length-length.result ≡ 0 = c.if-length-eq0.true in
    fault_step c.text.span _ 0 _ _ rest (some_left rest c.is_empty.result c.is_empty.ensures c.text-test.true)
    (c.gap_length-gap.ensures.blank (omega arith)) (c.gap_length-gap.ensures.comment (omega arith))
    (sym c.token_length-length.ensures.longest ∙ none) (no_token c.text.span rest) c.text.invariant.read

pub kind_of-requires : goal.kind_of-requires
kind_of-requires c =
    let rest = c.text.rest.now in
    let l = c.token_length-length.ensures.longest in
    let some : 0 < c.token_length-length.result = omega arith in
    rw c.front-token.ensures (subst (λ n. is_token (take n rest) ≡ true) (sym l)
    (longest_token (length rest) rest (subst (λ n. 0 < n) l some)))

-- a token is read
pub text-preserved : goal.text-preserved
text-preserved c =
    let rest = c.text.rest.now in
    let i = c.text.invariant in
    let n = c.token_length-length.result in
    let s : c.through-span-else-gap-gt0.result ≡ through c.text.span (take n rest) =
    c.through-span-else-gap-gt0.ensures ∙ ap (through c.text.span) c.front-token.ensures in
    let m = moves c.text.span rest n (length c.args.text.now) c.token_length-length.ensures.within i.at i.line
    i.column in
    rw (s, c.skip-rest-else-gap-gt0.ensures, c.in_ok-push.ensures.items) (record {
      at = m.0;
      line = m.1;
      column = m.2;
      read = push_step c.text.span c.text.tokens.items _ rest n _ refl
          (omega (arith, c.token_length-length.ensures.within)) (c.gap_length-gap.ensures.blank (omega arith))
          (c.gap_length-gap.ensures.comment (omega arith)) (sym c.token_length-length.ensures.longest) (omega arith)
          (ap (λ bytes. judged c.text.span (kind_of bytes)) (sym c.front-token.ensures) ∙ c.in_ok-kind.ensures.read)
          i.read;
    })
