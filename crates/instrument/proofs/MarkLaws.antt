-- What the classes of the lets say of the statements of the loop body.
use Rattle.std.proofs.Common.{◌≡◌, ◌==◌, ◌+◌, ℕ, zero, suc, pos, Bool, true, false, List, [], ◌∷◌, ◌++◌, refl, sym, ap, ◌∙◌, Option, None, Some, arith}
use Rattle.std.specs.Prelude.{if◌then◌else◌, slice_get}
use Rattle.std.specs.List.{list_all}
use Rattle.std.proofs.lemmas.Bool.{and_parts, eq-eqb}
use Rattle.std.proofs.lemmas.List.Folds.{list_all-append}
use Rattle.vert_base.specs.declared.value.Combine.TheVariants as combine
use Rattle.vert_tree.specs.declared.expression.Node.TheVariants as nodes
use Rattle.vert_tree.specs.declared.name.What.{What}
use Rattle.vert_tree.specs.declared.name.What.TheVariants as what
use Rattle.vert_tree.specs.declared.program.Decl.{Decl}
use Rattle.vert_tree.specs.declared.statement.AssignOp.{AssignOp}
use Rattle.vert_tree.specs.declared.statement.AssignOp.TheVariants as assign
use Rattle.vert_tree.specs.declared.statement.Stmt as statements
use Rattle.vert_tree.specs.Plain.{nowhere}
use Rattle.carry_analysis.specs.declared.classes.Class.{Class}
use Rattle.carry_analysis.specs.declared.classes.Class.TheVariants.{Constant, Reduced, Carried}
use Rattle.carry_analysis.specs.Classes.{Mark, class_of, is_added, is_lowered, is_raised, is_read, let_classes, node_marks, statement_marks, uses_of}
use Rattle.carry_analysis.proofs.StatementMarks.{uses-append}
use Rattle.instrument.proofs.WordLaws.{is_assignable, is_readable}

-- ---- what is allowed

abbrev is_allowed : Class → ℕ → List Mark → Bool
is_allowed Constant i ms = list_all is_read (uses_of i ms)
is_allowed (Reduced combine.Sum) i ms = list_all is_added (uses_of i ms)
is_allowed (Reduced combine.Min) i ms = list_all is_lowered (uses_of i ms)
is_allowed (Reduced combine.Max) i ms = list_all is_raised (uses_of i ms)
is_allowed (Reduced combine.First) i ms = false
is_allowed Carried i ms = true

abbrev is_allowed_at : Option Class → ℕ → List Mark → Bool
is_allowed_at None i ms = true
is_allowed_at (Some c) i ms = is_allowed c i ms

-- each let is used as its class allows
pub record Allowed (cs : List Class) (ms : List Mark) : Type 0 where
  pub each : (i : ℕ) → is_allowed_at (slice_get cs i) i ms ≡ true

tests_parts : {U : Type 0} (test : U → Bool) (all a b : List U) → all ≡ a ++ b → list_all test all ≡ true →
    (list_all test a ≡ true) × (list_all test b ≡ true)
tests_parts test all a b e h =
    and_parts (list_all test a) (list_all test b) (sym (ap (list_all test) e ∙ list_all-append test a b) ∙ h)

allowed_parts_at : (c : Option Class) (i : ℕ) (a b : List Mark) → is_allowed_at c i (a ++ b) ≡ true →
    (is_allowed_at c i a ≡ true) × (is_allowed_at c i b ≡ true)
allowed_parts_at None i a b h = (refl, refl)
allowed_parts_at (Some Constant) i a b h = tests_parts is_read _ (uses_of i a) (uses_of i b) (uses-append i a b) h
allowed_parts_at (Some (Reduced combine.Sum)) i a b h =
    tests_parts is_added _ (uses_of i a) (uses_of i b) (uses-append i a b) h
allowed_parts_at (Some (Reduced combine.Min)) i a b h =
    tests_parts is_lowered _ (uses_of i a) (uses_of i b) (uses-append i a b) h
allowed_parts_at (Some (Reduced combine.Max)) i a b h =
    tests_parts is_raised _ (uses_of i a) (uses_of i b) (uses-append i a b) h
allowed_parts_at (Some (Reduced combine.First)) i a b h = (h, h)
allowed_parts_at (Some Carried) i a b h = (refl, refl)

pub allowed_first : (cs : List Class) (a b : List Mark) → Allowed cs (a ++ b) → Allowed cs a
allowed_first cs a b p = record { each = λ i. (allowed_parts_at (slice_get cs i) i a b (p.each i)).0 }

pub allowed_second : (cs : List Class) (a b : List Mark) → Allowed cs (a ++ b) → Allowed cs b
allowed_second cs a b p = record { each = λ i. (allowed_parts_at (slice_get cs i) i a b (p.each i)).1 }

-- the marks of a read and of an assignment
abbrev pub read_marks : What → List Mark
read_marks w = node_marks (nodes.Name (record { span = nowhere; name = 0; what = w }))

abbrev pub assign_marks : What → AssignOp → List Mark
assign_marks w op = statement_marks
    (statements.Assign (record { span = nowhere; name = 0; what = w }) op
    (record { span = nowhere; node = nodes.Int (pos 0) }))

-- the one use of a list of uses
sole : {U : Type 0} (test : U → Bool) (b : Bool) (u : U) → b ≡ true → list_all test (if b then u ∷ [] else []) ≡ true →
    test u ≡ true
sole test true u e h = (and_parts (test u) true h).0
sole test false u e h = cc

readable_at : (c : Option Class) (i : ℕ) → is_allowed_at c i (read_marks (what.Local i)) ≡ true → is_readable c ≡ true
readable_at None i h = refl
readable_at (Some Constant) i h = refl
readable_at (Some (Reduced combine.Sum)) i h = sole is_added (i == i) _ (eq-eqb i i refl) h
readable_at (Some (Reduced combine.Min)) i h = sole is_lowered (i == i) _ (eq-eqb i i refl) h
readable_at (Some (Reduced combine.Max)) i h = sole is_raised (i == i) _ (eq-eqb i i refl) h
readable_at (Some (Reduced combine.First)) i h = h
readable_at (Some Carried) i h = refl

pub readable : (cs : List Class) (i : ℕ) → Allowed cs (read_marks (what.Local i)) → is_readable (slice_get cs i) ≡ true
readable cs i p = readable_at (slice_get cs i) i (p.each i)

assignable_at : (c : Option Class) (i : ℕ) (op : AssignOp) → is_allowed_at c i (assign_marks (what.Local i) op) ≡ true →
    is_assignable c op ≡ true
assignable_at None i op h = refl
assignable_at (Some Constant) i op h = sole is_read (i == i) _ (eq-eqb i i refl) h
assignable_at (Some (Reduced combine.Sum)) i assign.Set h = sole is_added (i == i) _ (eq-eqb i i refl) h
assignable_at (Some (Reduced combine.Sum)) i assign.Add h = refl
assignable_at (Some (Reduced combine.Sum)) i assign.Least h = sole is_added (i == i) _ (eq-eqb i i refl) h
assignable_at (Some (Reduced combine.Sum)) i assign.Greatest h = sole is_added (i == i) _ (eq-eqb i i refl) h
assignable_at (Some (Reduced combine.Min)) i assign.Set h = sole is_lowered (i == i) _ (eq-eqb i i refl) h
assignable_at (Some (Reduced combine.Min)) i assign.Add h = sole is_lowered (i == i) _ (eq-eqb i i refl) h
assignable_at (Some (Reduced combine.Min)) i assign.Least h = refl
assignable_at (Some (Reduced combine.Min)) i assign.Greatest h = sole is_lowered (i == i) _ (eq-eqb i i refl) h
assignable_at (Some (Reduced combine.Max)) i assign.Set h = sole is_raised (i == i) _ (eq-eqb i i refl) h
assignable_at (Some (Reduced combine.Max)) i assign.Add h = sole is_raised (i == i) _ (eq-eqb i i refl) h
assignable_at (Some (Reduced combine.Max)) i assign.Least h = sole is_raised (i == i) _ (eq-eqb i i refl) h
assignable_at (Some (Reduced combine.Max)) i assign.Greatest h = refl
assignable_at (Some (Reduced combine.First)) i op h = cc
assignable_at (Some Carried) i op h = refl

pub assignable : (cs : List Class) (i : ℕ) (op : AssignOp) → Allowed cs (assign_marks (what.Local i) op) →
    is_assignable (slice_get cs i) op ≡ true
assignable cs i op p = assignable_at (slice_get cs i) i op (p.each i)

-- ---- the classes of a body allow what stands in it

-- the class that some tests choose
abbrev chosen : Bool → Bool → Bool → Bool → Class
chosen reads adds lowers raises =
    if reads then Constant
    else if adds then Reduced combine.Sum
    else if lowers then Reduced combine.Min
    else if raises then Reduced combine.Max
    else Carried

-- a class by its own test
abbrev by_class : Class → Bool → Bool → Bool → Bool → Bool
by_class Constant reads adds lowers raises = reads
by_class (Reduced combine.Sum) reads adds lowers raises = adds
by_class (Reduced combine.Min) reads adds lowers raises = lowers
by_class (Reduced combine.Max) reads adds lowers raises = raises
by_class (Reduced combine.First) reads adds lowers raises = false
by_class Carried reads adds lowers raises = true

chosen_holds : (reads adds lowers raises : Bool) →
    by_class (chosen reads adds lowers raises) reads adds lowers raises ≡ true
chosen_holds true adds lowers raises = refl
chosen_holds false true lowers raises = refl
chosen_holds false false true raises = refl
chosen_holds false false false true = refl
chosen_holds false false false false = refl

allowed_is : (c : Class) (i : ℕ) (ms : List Mark) →
    is_allowed c i ms ≡ by_class c (list_all is_read (uses_of i ms)) (list_all is_added (uses_of i ms))
    (list_all is_lowered (uses_of i ms)) (list_all is_raised (uses_of i ms))
allowed_is Constant i ms = refl
allowed_is (Reduced combine.Sum) i ms = refl
allowed_is (Reduced combine.Min) i ms = refl
allowed_is (Reduced combine.Max) i ms = refl
allowed_is (Reduced combine.First) i ms = refl
allowed_is Carried i ms = refl

class_allows : (i : ℕ) (ms : List Mark) → is_allowed (class_of (uses_of i ms)) i ms ≡ true
class_allows i ms =
    allowed_is (class_of (uses_of i ms)) i ms
    ∙ chosen_holds (list_all is_read (uses_of i ms)) (list_all is_added (uses_of i ms))
    (list_all is_lowered (uses_of i ms)) (list_all is_raised (uses_of i ms))

classes_allow_from : (ds : List Decl) (i j k : ℕ) (ms : List Mark) → k ≡ i + j →
    is_allowed_at (slice_get (let_classes i ds ms) j) k ms ≡ true
classes_allow_from [] i j k ms e = refl
classes_allow_from (d ∷ ds) i zero k ms e =
    ap (λ n. is_allowed (class_of (uses_of i ms)) n ms) (omega arith) ∙ class_allows i ms
classes_allow_from (d ∷ ds) i (suc j) k ms e = classes_allow_from ds (i + 1) j k ms (omega arith)

pub classes_allow : (ds : List Decl) (ms : List Mark) → Allowed (let_classes 0 ds ms) ms
classes_allow ds ms = record { each = λ i. classes_allow_from ds 0 i i ms (omega arith) }
