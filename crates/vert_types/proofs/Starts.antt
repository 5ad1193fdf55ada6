-- An expression begins where its node says.
use Rattle.std.proofs.Common.{◌≡◌, List, refl}
use Rattle.std.specs.declared.alloc.Global.{Global}
use Rattle.std.specs.declared.string.String.{String}
use Rattle.vert_base.specs.declared.text.Span.{Span}
use Rattle.vert_tree.specs.declared.expression.Node.{Node}
use Rattle.vert_tree.specs.declared.expression.Node.TheVariants.{Int, Bool, Word, Name, Got, Value, OtherField, OtherWord, Draw, Neg', Not', Binary', Cond', Least', Greatest', Group'}
use Rattle.vert_tree.specs.Trees.{start}
use Rattle.vert_tree.specs.Views.{view_node}

pub start_view : (names : List (String Global)) (s : Span) (n : Node) → start (view_node names s n) ≡ s
start_view names s (Int x) = refl
start_view names s (Bool b) = refl
start_view names s (Word w) = refl
start_view names s (Name name) = refl
start_view names s (Got name) = refl
start_view names s (Value name) = refl
start_view names s (OtherField name) = refl
start_view names s (OtherWord w) = refl
start_view names s (Draw at number) = refl
start_view names s (Neg' _ _ a) = refl
start_view names s (Not' _ _ a) = refl
start_view names s (Binary' op _ _ a _ _ b) = refl
start_view names s (Cond' _ _ test _ _ a _ _ b) = refl
start_view names s (Least' _ _ a _ _ b) = refl
start_view names s (Greatest' _ _ a _ _ b) = refl
start_view names s (Group' _ _ a) = refl
