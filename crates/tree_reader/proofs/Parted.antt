-- A dense block read in parts.
use Rattle.std.proofs.Common.{◌≡◌, List, Ok, Err, refl, sym, ◌∙◌}
use Rattle.vert_lex.specs.Text.{Placed}
use Rattle.vert_lex.specs.declared.marks.TheConstants as mark
use Rattle.vert_lex.specs.declared.words.TheConstants as word
use Rattle.vert_tree.specs.Trees.{DenseBlock}
use Rattle.vert_grammar.specs.Grammar.{limits}
use Rattle.vert_grammar.specs.Reading.{Parser, Res, ◌>>=◌, both, declaration_at, dense_at, ended_by, made, the_word, up_to}
use Rattle.vert_grammar.specs.Signs.{is_word}
use Rattle.tree_reader.specs.Parts.{loop_at}

-- a part behind one that was read
abbrev behind : {A B : Type 0} → A → B × List Placed → Res (A × B)
behind a y = Ok ((a, y.0), y.1)

abbrev through : {A C : Type 0} → (A → C) → A × List Placed → Res C
through f x = Ok (f x.0, x.1)

abbrev then_part : {A B : Type 0} → Parser B → A × List Placed → Res (A × B)
then_part q x = q x.1 >>= behind x.0

-- what is made of the second part where the first is read
beside : {A B C : Type 0} (a : A) (f : A × B → C) (r : Res B) →
    ((r >>= behind a) >>= through f) ≡ (r >>= through (λ y. f (a, y)))
beside a f (Ok y) = refl
beside a f (Err e) = refl

-- what is made of two parts is the same where what is made of the second is
made_of_both : {A B D C : Type 0} (p : Parser A) (q : Parser B) (q' : Parser D) (f : A × B → C) (f' : A × D → C)
    → ((a : A) (ts : List Placed) → made (λ y. f (a, y)) q ts ≡ made (λ y. f' (a, y)) q' ts)
    → (ts : List Placed) → made f (both p q) ts ≡ made f' (both p q') ts
made_of_both {A = A} p q q' f f' h ts = go (p ts)
  where
    go : (r : Res A) → ((r >>= then_part q) >>= through f) ≡ ((r >>= then_part q') >>= through f')
    go (Ok x) = beside x.0 f (q x.1) ∙ h x.0 x.1 ∙ sym (beside x.0 f' (q' x.1))
    go (Err e) = refl

-- what is made in two steps
made_twice : {A B C : Type 0} (g : A → B) (f : B → C) (p : Parser A) (ts : List Placed) →
    made (λ x. f (g x)) p ts ≡ made f (made g p) ts
made_twice {A = A} g f p ts = go (p ts)
  where
    go : (r : Res A) → (r >>= through (λ x. f (g x))) ≡ ((r >>= through g) >>= through f)
    go (Ok x) = refl
    go (Err e) = refl

abbrev parted : Parser DenseBlock
parted =
    made (λ x. record { test = x.1.1.0.0; lets = x.1.1.1.0; body = x.1.1.1.1.0; tail = x.1.1.1.1.1 })
    (both (the_word word.DENSE) (both (the_word word.WHEN)
    (both (ended_by mark.LEFT_BRACE 64) (both (up_to (is_word word.LET) (declaration_at word.LET 64) 8) loop_at))))

pub dense_step : (ts : List Placed) → dense_at limits ts ≡ parted ts
unfolding dense_at
dense_step ts =
    made_of_both (the_word word.DENSE) _ _ _ _ (λ a.
    made_of_both (the_word word.WHEN) _ _ _ _ (λ b.
    made_of_both (ended_by mark.LEFT_BRACE 64) _ _ _ _ (λ c.
    made_of_both (up_to (is_word word.LET) (declaration_at word.LET 64) 8) _ _ _ _ (λ d.
    made_twice (λ x. (x.1.1.1.0, x.1.1.1.1.1.0)) _ _)))) ts
