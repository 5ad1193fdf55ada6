-- What is read of an expression that no other is part of.
use Rattle.std.proofs.Common.{◌≡◌, List, [], ◌∷◌, Ok, cond, ap, inl}
use Rattle.vert_lex.specs.Text.{Placed}
use Rattle.vert_lex.specs.Tokens.{Kind, Reserved, Mark, Number, Name}
use Rattle.vert_tree.specs.Trees.{Named}
use Rattle.vert_grammar.specs.Faults.{Unexpected}
use Rattle.vert_grammar.specs.Reading.{Res, ◌>>=◌, stop, single, name_at, is_other_at, other_in}
use Rattle.vert_grammar.specs.Signs.{is_name, text_in}

-- a name behind `u.`
pub other_is_name : (ts r : List Placed) (name : Named) → name_at ts ≡ Ok (name, r) →
    single is_other_at other_in ts ≡ Ok (inl name, r)
unfolding single
other_is_name [] r name e = absurd cc
other_is_name (t ∷ ts) r name e = go t.kind e
  where
    go : (k : Kind) → cond (is_name k) (Ok (record { span = t.span; text = text_in k }, ts))
        (stop Unexpected (t ∷ ts)) ≡ Ok (name, r) →
        cond (is_other_at k) (Ok (other_in t.span k, ts)) (stop Unexpected (t ∷ ts)) ≡ Ok (inl name, r)
    go (Name m) f = ap (λ (q : Res Named). q >>= λ x. Ok (inl x.0, x.1)) f
    go (Reserved m) f = absurd cc
    go (Mark m) f = absurd cc
    go (Number m) f = absurd cc
