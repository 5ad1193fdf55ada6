-- A program that is a reading by the grammar, with its names numbered, is one as the checks want it.
use Rattle.std.proofs.Common.{◌≡◌, ℕ, ◌≤◌, ◌==◌, Bool, true, false, ◌&&◌, IsTrue, List, [], ◌∷◌, length, Option, Some, None, refl, sym, subst}
use Rattle.std.specs.Prelude.{nat_le, is_none, ◌||◌}
use Rattle.std.specs.List.{list_all, AllByRecursion}
use Rattle.std.proofs.lemmas.Bool.{le-leb, and_from}
use Rattle.vert_base.specs.declared.value.Combine.{Combine}
use Rattle.vert_base.specs.declared.value.Combine.TheVariants as combine
use Rattle.vert_lex.specs.Text.{Placed}
use Rattle.vert_tree.specs.declared.program.Program.{Program}
use Rattle.vert_tree.specs.Places.{option_all}
use Rattle.vert_tree.specs.Readable.{is_total_op}
use Rattle.vert_tree.specs.Trees.{Declaration, DenseBlock, ProgramTree, SparseBlock, Statements, TotalDeclaration, Tree, block_depth, depth}
use Rattle.vert_tree.specs.Views.{view_program}
use Rattle.vert_grammar.specs.Faults.{IsReading}
use Rattle.vert_grammar.specs.Grammar.{AreShallow, Each, Given, InTwo, IsShallow, IsShallowDense, IsShallowSparse, IsSmall, Maybe, ReadsProgram, ReadsStop, ReadsTotal, limits}
use Rattle.vert_grammar.specs.Signs.{is_fold}
use Rattle.vert_parse.specs.Parsing.{IsNamed}
use Rattle.vert_parse.specs.Names.{program_names}
use Rattle.vert_types.specs.Parsed.{IsParsed, are_shallow, is_counted, is_of_version, is_shallow_block, is_shallow_dense, is_shallow_program, is_shallow_sparse, is_shallow_tree}
use Rattle.program_reader.proofs.Apart.{apart}
use Rattle.program_reader.proofs.NameLaws.{program_gives}

-- what holds of each of a list, as a test of these
all_of : {X : Type 0} (P : X → Type 0) (q : X → Bool) (xs : List X) → ((x : X) → P x → q x ≡ true) →
    AllByRecursion P xs → list_all q xs ≡ true
all_of P q [] h all = refl
all_of P q (x ∷ xs) h all = and_from (q x) (list_all q xs) (h x all.0) (all_of P q xs h all.1)

given_of : {X : Type 0} (P : X → Type 0) (q : X → Bool) (o : Option X) → ((x : X) → P x → q x ≡ true) → Given P o →
    option_all q o ≡ true
given_of P q None h given = refl
given_of P q (Some x) h given = h x given

-- ---- depths
tree_is : (e : Tree) → depth e ≤ 64 → is_shallow_tree e ≡ true
tree_is e le = le-leb (depth e) 64 le

block_is : (body : Statements) → block_depth body ≤ 64 → is_shallow_block body ≡ true
block_is body le = le-leb (block_depth body) 64 le

declarations_are : (ds : List Declaration) → AreShallow 64 ds → are_shallow ds ≡ true
declarations_are ds h = all_of (λ (d : Declaration). depth d.value ≤ 64) (λ d. is_shallow_tree d.value) ds (λ d.
    tree_is d.value) h

dense_is : (d : DenseBlock) → IsShallowDense 64 d → is_shallow_dense d ≡ true
dense_is d k = and_from _ _ (tree_is d.test k.test)
    (and_from _ _ (declarations_are d.lets k.lets) (and_from _ _ (block_is d.body k.body) (block_is d.tail k.tail)))

sparse_is : (d : SparseBlock) → IsShallowSparse 64 d → is_shallow_sparse d ≡ true
sparse_is d k = and_from _ _ (tree_is d.test k.test)
    (and_from _ _ (declarations_are d.sends k.sends) (block_is d.body k.body))

pub shallow_is : (t : ProgramTree) → IsShallow 64 t → is_shallow_program t ≡ true
shallow_is t h =
    and_from _ _ (declarations_are t.fields h.fields)
    (and_from _ _ (all_of (λ (d : TotalDeclaration). depth d.value ≤ 64) (λ d. is_shallow_tree d.value) t.totals (λ d.
    tree_is d.value) h.totals)
    (and_from _ _ (tree_is t.start h.start)
    (and_from _ _ (given_of (IsShallowDense 64) is_shallow_dense t.dense dense_is h.dense)
    (and_from _ _ (given_of (IsShallowSparse 64) is_shallow_sparse t.sparse sparse_is h.sparse)
    (and_from _ _ (block_is t.update h.update)
    (given_of (λ test. depth test ≤ 64) is_shallow_tree t.stop tree_is h.stop))))))

-- ---- counts
pub counted_is : (t : ProgramTree) → IsSmall limits t → is_counted t ≡ true
counted_is t h =
    and_from _ _ (le-leb (length t.fields) 16 h.fields)
    (and_from _ _ (le-leb (length t.slots) 8 h.slots)
    (and_from _ _ (le-leb (length t.totals) 4 h.totals)
    (and_from _ _ (given_of (λ (d : DenseBlock). length d.lets ≤ 8) (λ d. nat_le (length d.lets) 8) t.dense (λ d.
    le-leb (length d.lets) 8) h.lets)
    (given_of (λ (d : SparseBlock). length d.sends ≤ 8) (λ d. nat_le (length d.sends) 8) t.sparse (λ d.
    le-leb (length d.sends) 8) h.sends))))

-- ---- versions and totals
no_totals : (version : ℕ) (ts : List TotalDeclaration) (u : List Placed) → (version == 2) ≡ false →
    Each (λ d. InTwo version (ReadsTotal d)) ts u → (length ts == 0) ≡ true
no_totals version [] u one h = refl
no_totals version (t ∷ ts) u one h = let two : (version == 2) ≡ true = h.first.0 in cc

no_stop : (version : ℕ) (o : Option Tree) (u : List Placed) → (version == 2) ≡ false →
    Maybe (λ test. InTwo version (ReadsStop test)) o u → is_none o ≡ true
no_stop version None u one h = refl
no_stop version (Some e) u one h = let two : (version == 2) ≡ true = h.0 in cc

either : (a b c : Bool) → (a ≡ false → (b ≡ true) × (c ≡ true)) → (a || (b && c)) ≡ true
either true b c h = refl
either false b c h = let k = h refl in and_from b c k.0 k.1

one_of : (one two : Bool) → (one || two) ≡ true → two ≡ false → one ≡ true
one_of true two h e = refl
one_of false two h e = cc

pub version_is : (t : ProgramTree) (u : List Placed) → ReadsProgram t u → is_of_version t ≡ true
version_is t u h =
    let blocks = h.second.second.second in
    let declared = h.second.first in
    either (t.version == 2) (t.version == 1) _ (λ one. (
      one_of (t.version == 1) (t.version == 2) h.first.second.first.0 one,
      and_from _ _ (no_totals t.version t.totals _ one declared.second.second)
          (no_stop t.version t.stop _ one blocks.second.second.second),
    ))

fold_is : (op : Combine) → IsTrue (is_fold op) → is_total_op op ≡ true
fold_is combine.Min h = refl
fold_is combine.Max h = refl
fold_is combine.Sum h = refl
fold_is combine.First h = h

pub totals_are : (version : ℕ) (ts : List TotalDeclaration) (u : List Placed) →
    Each (λ d. InTwo version (ReadsTotal d)) ts u → list_all (λ t. is_total_op t.op) ts ≡ true
totals_are version [] u h = refl
totals_are version (t ∷ ts) u h = and_from (is_total_op t.op) (list_all (λ t. is_total_op t.op) ts)
    (fold_is t.op h.first.1.0) (totals_are version ts h.back h.second)

pub is_parsed : (placed : List Placed) (p : Program) → IsReading placed (view_program p) → IsNamed p → IsParsed p
is_parsed placed p h named = record {
  known = program_gives (length p.names.items) p named.numbered;
  apart = apart p.names.items (program_names (view_program p)) named.texts;
  shallow = shallow_is (view_program p) h.small.shallow;
  counted = counted_is (view_program p) h.small;
  version = version_is (view_program p) placed h.reads;
  totals = totals_are p.version (view_program p).totals _ h.reads.second.first.second.second;
}
