-- What the names stand for after declarations, part by part.
use Rattle.std.proofs.Common.{◌≡◌, List, [], ◌∷◌, ◌++◌, Option, refl, sym, ap, ◌∙◌, append_assoc}
use Rattle.vert_types.specs.declared.fault.Finding.{Finding}
use Rattle.vert_types.specs.declared.scope.Meaning.{Meaning}
use Rattle.vert_types.specs.Findings.{first_from}
use Rattle.vert_types.specs.Tables.{Item, again_in, table_after, twice_in, with_item}
use Rattle.vert_types.proofs.Firsts.{first_from-append}

table_after-append : (table : List (Option Meaning)) (a b : List Item) →
    table_after table (a ++ b) ≡ table_after (table_after table a) b
table_after-append table [] b = refl
table_after-append table (e ∷ a) b = table_after-append (with_item table e) a b

twice_in-append : (table : List (Option Meaning)) (a b : List Item) → twice_in table (a ++ b) ≡ twice_in table a
    ++ twice_in (table_after table a) b
twice_in-append table [] b = refl
twice_in-append table (e ∷ a) b =
    ap (λ fs. again_in table e ++ fs) (twice_in-append (with_item table e) a b)
    ∙ sym (append_assoc (again_in table e) (twice_in (with_item table e) a)
    (twice_in (table_after (with_item table e) a) b))

-- some declarations lead from one table and first fault to others
pub record Declares (from : List (Option Meaning)) (before : Option Finding) (items : List Item)
    (to : List (Option Meaning)) (after : Option Finding) : Type 0 where
  pub table : to ≡ table_after from items
  pub faults : after ≡ first_from before (twice_in from items)

module _ (a b c : List (Option Meaning)) (x y z : Option Finding) (some more : List Item) where
  pub then_declares : Declares a x some b y → Declares b y more c z → Declares a x (some ++ more) c z
  then_declares p q = record {
    table = q.table ∙ ap (λ t. table_after t more) p.table ∙ sym (table_after-append a some more);
    faults =
        q.faults
        ∙ ap (λ o. first_from o (twice_in b more)) p.faults
        ∙ ap (λ t. first_from (first_from x (twice_in a some)) (twice_in t more)) p.table
        ∙ sym (first_from-append x (twice_in a some) (twice_in (table_after a some) more))
        ∙ sym (ap (first_from x) (twice_in-append a some more));
  }

-- the same, by what the call says of a list that is this one
module _ {X : Type 0} (make : List X → List Item) (l l' : List X) (a b : List (Option Meaning))
    (x y : Option Finding) where
  pub declares : l ≡ l' → b ≡ table_after a (make l) → y ≡ first_from x (twice_in a (make l)) →
      Declares a x (make l') b y
  declares same table faults = record {
    table = table ∙ ap (λ s. table_after a (make s)) same;
    faults = faults ∙ ap (λ s. first_from x (twice_in a (make s))) same;
  }
