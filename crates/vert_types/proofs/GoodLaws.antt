-- An expression without faults has its places, its words and its type.
use Rattle.std.proofs.Common.{◌≡◌, ℕ, Bool, true, false, ◌&&◌, List, [], ◌∷◌, ◌++◌, Option, None, Some, refl, sym, ap, ◌∙◌}
use Rattle.std.specs.Prelude.{if◌then◌else◌, option_map, slice_get, nat_lt}
use Rattle.std.specs.String.{string_bytes}
use Rattle.std.specs.declared.alloc.Global.{Global}
use Rattle.std.specs.declared.string.String.{String}
use Rattle.std.proofs.lemmas.Bool.{and_parts, and_from}
use Rattle.std.proofs.lemmas.Bool.Decides.{Decides-eqb}
use Rattle.vert_base.specs.declared.text.Span.{Span}
use Rattle.vert_base.specs.declared.value.ValueType.{ValueType}
use Rattle.vert_base.specs.declared.value.ValueType.TheVariants as kind
use Rattle.vert_tree.specs.declared.expression.Expr.{Expr}
use Rattle.vert_tree.specs.declared.expression.Node.{Node}
use Rattle.vert_tree.specs.declared.expression.Node.TheVariants as nodes
use Rattle.vert_tree.specs.declared.name.Ident.{Ident}
use Rattle.vert_tree.specs.declared.name.What.{What}
use Rattle.vert_tree.specs.declared.name.What.TheVariants.{Unread, Field, Slot, Local, Send, Total}
use Rattle.vert_tree.specs.Kinds.{Kinds, has_kind, kind_where, name_kind, node_kind, operand_kind, other_kind, outcome_kind, same_kind, word_kind}
use Rattle.vert_tree.specs.Places.{is_named, is_other_field, is_slot, node_placed}
use Rattle.vert_tree.specs.Readable.{node_read}
use Rattle.vert_tree.specs.Trees.{start}
use Rattle.vert_tree.specs.Views.{text_in, text_of, view_node}
use Rattle.vert_types.specs.declared.fault.Finding.{Finding}
use Rattle.vert_types.specs.declared.scope.Meaning.{Meaning}
use Rattle.vert_types.specs.Filled.{is_what, name_filled, node_filled, says, what_in, what_of}
use Rattle.vert_types.specs.Findings.{unless}
use Rattle.vert_types.specs.Typing.{Dictionary, Place, faults_as, faults_of, is_field, is_read_slot, kind_faults, kind_of, kind_of_use, same_faults, use_faults}

pub never : false ≡ true → ⊥
never h = cc

-- ---- no faults
pub none_left : (a b : List Finding) → a ++ b ≡ [] → a ≡ []
none_left [] b h = refl
none_left (x ∷ a) b h = cc

pub none_right : (a b : List Finding) → a ++ b ≡ [] → b ≡ []
none_right [] b h = h
none_right (x ∷ a) b h = cc

pub none_unless : (b : Bool) (code : ℕ) (s : Span) → unless b code s ≡ [] → b ≡ true
none_unless true code s h = refl
none_unless false code s h = cc

-- a used name that isn't refused
pub used : (is_of_use : What → Bool) (o : Option Meaning) (s : Span) → use_faults is_of_use o s ≡ [] → (m : Meaning) ×
    (o ≡ Some m) × (is_of_use m.what ≡ true)
used is_of_use None s h = cc
used is_of_use (Some m) s h = (m, refl, none_unless (is_of_use m.what) _ s h)

-- an expression whose type isn't refused
pub right_kind : (k t : ValueType) (s : Span) → kind_faults k (Some t) s ≡ [] → t ≡ k
right_kind kind.Int kind.Int s h = refl
right_kind kind.Bool kind.Bool s h = refl
right_kind kind.Int kind.Bool s h = cc
right_kind kind.Bool kind.Int s h = cc

pub has_own : (k : ValueType) → has_kind k (Some k) ≡ true
has_own kind.Int = refl
has_own kind.Bool = refl

-- ---- names
same_what : (a b : What) → is_what a b ≡ true → a ≡ b
same_what Unread Unread h = refl
same_what (Field i) (Field j) h = ap Field ((Decides-eqb i j).0 h)
same_what (Slot i) (Slot j) h = ap Slot ((Decides-eqb i j).0 h)
same_what (Local i) (Local j) h = ap Local ((Decides-eqb i j).0 h)
same_what (Send i) (Send j) h = ap Send ((Decides-eqb i j).0 h)
same_what (Total i) (Total j) h = ap Total ((Decides-eqb i j).0 h)
same_what _ _ h = absurd (never h)

said : (d : Dictionary) (w : What) (o : Option (String Global)) (m : Meaning) →
    says w (option_map (λ text. what_in (d (string_bytes text))) o) ≡ true → d (text_in o) ≡ Some m → w ≡ m.what
said d w None m h is = absurd (never h)
said d w (Some text) m h is = same_what w (what_in (d (string_bytes text))) h ∙ ap what_in is

-- What the types of the names are at a place, and which of them have a place.
pub record Agrees (d : Dictionary) (p : Place) (k : Kinds) : Type 0 where
  pub named : (text : List ℕ) (m : Meaning) → d text ≡ Some m → is_named p.names m.what ≡ true →
      name_kind k m.what ≡ Some m.kind
  pub behind : (text : List ℕ) (m : Meaning) → d text ≡ Some m → is_field m.what ≡ true → p.words.others ≡ true →
      is_other_field p.names m.what ≡ true
  pub other : (text : List ℕ) (m : Meaning) → d text ≡ Some m → is_field m.what ≡ true →
      other_kind k m.what ≡ Some m.kind

module _ (d : Dictionary) (names : List (String Global)) where
  pub name_said : (name : Ident) (m : Meaning) → name_filled (what_of d names) name ≡ true →
      d (text_of names name.name) ≡ Some m → name.what ≡ m.what
  name_said name m h is = said d name.what (slice_get names name.name) m h is

  module _ (p : Place) (k : Kinds) where
    -- an expression that has its places, its words and a type
    pub record Good (s : Span) (n : Node) : Type 0 where
      pub placed : node_placed p.names n ≡ true
      pub read : node_read p.words n ≡ true
      pub type : ValueType
      pub told : kind_of d p (view_node names s n) ≡ Some type
      pub kinded : node_kind k n ≡ Some type

    -- the same, and the type is this one
    pub record GoodAs (t : ValueType) (n : Node) : Type 0 where
      pub placed : node_placed p.names n ≡ true
      pub read : node_read p.words n ≡ true
      pub kinded : node_kind k n ≡ Some t

    pub good_as : (t : ValueType) (s : Span) (n : Node) (at : Span) → Good s n →
        kind_faults t (kind_of d p (view_node names s n)) at ≡ [] → GoodAs t n
    good_as t s n at g h =
        let is : g.type ≡ t = right_kind t g.type at (sym (ap (λ o. kind_faults t o at) g.told) ∙ h) in
        record { placed = g.placed; read = g.read; kinded = g.kinded ∙ ap Some is }

    -- ---- one node of its parts
    one_part : (t u : ValueType) (n : Node) → GoodAs t n → kind_where (has_kind t (node_kind k n)) u ≡ Some u
    one_part t u n g = ap (λ o. kind_where (has_kind t o) u) g.kinded ∙ ap (λ b. kind_where b u) (has_own t)

    two_parts : (t u : ValueType) (a b : Node) → GoodAs t a → GoodAs t b →
        kind_where (has_kind t (node_kind k a) && has_kind t (node_kind k b)) u ≡ Some u
    two_parts t u a b g h =
        ap (λ o. kind_where (has_kind t o && has_kind t (node_kind k b)) u) g.kinded
        ∙ ap (λ o. kind_where (has_kind t (Some t) && has_kind t o) u) h.kinded
        ∙ ap (λ c. kind_where c u) (and_from _ _ (has_own t) (has_own t))

    choice_kind : (t : ValueType) (test a b : Node) → GoodAs kind.Bool test → node_kind k a ≡ Some t →
        node_kind k b ≡ Some t →
        (if has_kind kind.Bool (node_kind k test) then same_kind (node_kind k a) (node_kind k b) else None) ≡ Some t
    choice_kind t test a b g p q =
        ap (λ o. if has_kind kind.Bool o then same_kind (node_kind k a) (node_kind k b) else None) g.kinded
        ∙ ap (λ o. same_kind o (node_kind k b)) p ∙ ap (same_kind (Some t)) q ∙ ap (λ c. kind_where c t) (has_own t)

    -- ---- names
    read_name : Agrees d p k → (name : Ident) (s : Span) → name_filled (what_of d names) name ≡ true →
        use_faults (is_named p.names) (d (text_of names name.name)) s ≡ [] →
        (m : Meaning) × (is_named p.names name.what ≡ true) ×
        (kind_of_use (is_named p.names) (d (text_of names name.name)) ≡ Some m.kind) ×
        (name_kind k name.what ≡ Some m.kind)
    read_name agrees name s filled none =
        let m = used (is_named p.names) (d (text_of names name.name)) s none in
        let is = name_said name m.0 filled m.1 in (
          m.0,
          ap (is_named p.names) is ∙ m.2,
          ap (kind_of_use (is_named p.names)) m.1 ∙ ap (λ b. if b then Some m.0.kind else None) m.2,
          ap (name_kind k) is ∙ agrees.named (text_of names name.name) m.0 m.1 m.2,
        )

    read_slot : (name : Ident) (s : Span) → name_filled (what_of d names) name ≡ true →
        use_faults (is_read_slot p) (d (text_of names name.name)) s ≡ [] →
        (is_slot p.names name.what ≡ true) × (p.words.slots ≡ true)
    read_slot name s filled none =
        let m = used (is_read_slot p) (d (text_of names name.name)) s none in
        let is = name_said name m.0 filled m.1 in
        let parts = and_parts p.words.slots (is_slot p.names m.0.what) m.2 in
        (ap (is_slot p.names) is ∙ parts.1, parts.0)

    read_other : Agrees d p k → (name : Ident) (s : Span) → name_filled (what_of d names) name ≡ true →
        p.words.others ≡ true → use_faults is_field (d (text_of names name.name)) s ≡ [] →
        (m : Meaning) × (is_other_field p.names name.what ≡ true) ×
        (kind_of_use is_field (d (text_of names name.name)) ≡ Some m.kind) × (other_kind k name.what ≡ Some m.kind)
    read_other agrees name s filled others none =
        let m = used is_field (d (text_of names name.name)) s none in
        let is = name_said name m.0 filled m.1 in (
          m.0,
          ap (is_other_field p.names) is ∙ agrees.behind (text_of names name.name) m.0 m.1 m.2 others,
          ap (kind_of_use is_field) m.1 ∙ ap (λ b. if b then Some m.0.kind else None) m.2,
          ap (other_kind k) is ∙ agrees.other (text_of names name.name) m.0 m.1 m.2,
        )

    -- ---- expressions
    abbrev F : Span → Node → List Finding
    F s n = faults_of d p (view_node names s n)

    abbrev K : ValueType → Span → Node → List Finding
    K t s n = kind_faults t (kind_of d p (view_node names s n)) (start (view_node names s n))

    abbrev as_own : (t : ValueType) (s : Span) (n : Node) → Good s n → F s n ++ K t s n ≡ [] → GoodAs t n
    as_own t s n g h = good_as t s n (start (view_node names s n)) g (none_right (F s n) (K t s n) h)

    module _ (s : Span) (whole a b : Node) (t u : ValueType) where
      two_good : GoodAs t a → GoodAs t b →
          node_placed p.names whole ≡ (node_placed p.names a && node_placed p.names b) →
          node_read p.words whole ≡ (node_read p.words a && node_read p.words b) →
          node_kind k whole ≡ kind_where (has_kind t (node_kind k a) && has_kind t (node_kind k b)) u →
          kind_of d p (view_node names s whole) ≡ Some u → Good s whole
      two_good g h placed read kinded told = record {
        placed = placed ∙ and_from _ _ g.placed h.placed;
        read = read ∙ and_from _ _ g.read h.read;
        type = u;
        told = told;
        kinded = kinded ∙ two_parts t u a b g h;
      }

    pub good : Agrees d p k → (s : Span) (n : Node) → node_filled (what_of d names) n ≡ true → F s n ≡ [] → Good s n
    good agrees s (nodes.Int x) filled none = record {
      placed = refl;
      read = refl;
      type = kind.Int;
      told = refl;
      kinded = refl;
    }
    good agrees s (nodes.Bool b) filled none = record {
      placed = refl;
      read = refl;
      type = kind.Bool;
      told = refl;
      kinded = refl;
    }
    good agrees s (nodes.Word w) filled none = record {
      placed = refl;
      read = none_unless _ _ s none;
      type = word_kind w;
      told = refl;
      kinded = refl;
    }
    good agrees s (nodes.Name name) filled none =
        let m = read_name agrees name name.span filled none in
        record { placed = m.1; read = refl; type = m.0.kind; told = m.2; kinded = m.3 }
    good agrees s (nodes.Got name) filled none =
        let m = read_slot name name.span filled none in
        record { placed = m.0; read = m.1; type = kind.Bool; told = refl; kinded = refl }
    good agrees s (nodes.Value name) filled none =
        let m = read_slot name name.span filled none in
        record { placed = m.0; read = m.1; type = kind.Int; told = refl; kinded = refl }
    good agrees s (nodes.OtherField name) filled none =
        let others = none_unless p.words.others _ s
        (none_left (unless p.words.others _ s) (use_faults is_field (d (text_of names name.name)) name.span) none)
        in
        let m = read_other agrees name name.span filled others
        (none_right (unless p.words.others _ s) (use_faults is_field (d (text_of names name.name)) name.span)
        none) in
        record { placed = m.1; read = others; type = m.0.kind; told = m.2; kinded = m.3 }
    good agrees s (nodes.OtherWord w) filled none = record {
      placed = refl;
      read = none_unless _ _ s none;
      type = word_kind w;
      told = refl;
      kinded = refl;
    }
    good agrees s (nodes.Draw at number) filled none =
        let own = none_unless p.words.own _ s
        (none_left (unless p.words.own _ s) (unless (nat_lt number 256) _ at) none) in
        let byte = none_unless (nat_lt number 256) _ at
        (none_right (unless p.words.own _ s) (unless (nat_lt number 256) _ at) none) in
        record { placed = byte; read = own; type = kind.Int; told = refl; kinded = refl }
    good agrees s (nodes.Neg' q t a) filled none =
        let g = as_own kind.Int t a (good agrees t a filled (none_left (F t a) (K kind.Int t a) none)) none in
        record {
          placed = g.placed;
          read = g.read;
          type = kind.Int;
          told = refl;
          kinded = one_part kind.Int kind.Int a g;
        }
    good agrees s (nodes.Not' q t a) filled none =
        let g = as_own kind.Bool t a (good agrees t a filled (none_left (F t a) (K kind.Bool t a) none)) none in
        record {
          placed = g.placed;
          read = g.read;
          type = kind.Bool;
          told = refl;
          kinded = one_part kind.Bool kind.Bool a g;
        }
    good agrees s (nodes.Binary' op q t a r u b) filled none =
        let w = operand_kind op in
        let f = and_parts (node_filled (what_of d names) a) (node_filled (what_of d names) b) filled in
        let left = none_left (F t a ++ K w t a) (F u b ++ K w u b) none in
        let right = none_right (F t a ++ K w t a) (F u b ++ K w u b) none in
        let g = as_own w t a (good agrees t a f.0 (none_left (F t a) (K w t a) left)) left in
        let h = as_own w u b (good agrees u b f.1 (none_left (F u b) (K w u b) right)) right in
        two_good s (nodes.Binary' op q t a r u b) a b w (outcome_kind op) g h refl refl refl refl
    good agrees s (nodes.Cond' q t test r u a x v b) filled none =
        let w = what_of d names in
        let f = and_parts (node_filled w test) (node_filled w a && node_filled w b) filled in
        let e = and_parts (node_filled w a) (node_filled w b) f.1 in
        let S = same_faults (kind_of d p (view_node names u a)) (kind_of d p (view_node names v b))
        (start (view_node names v b)) in
        let tests = none_left (F t test ++ K kind.Bool t test) (F u a ++ (F v b ++ S)) none in
        let rest = none_right (F t test ++ K kind.Bool t test) (F u a ++ (F v b ++ S)) none in
        let last = none_right (F u a) (F v b ++ S) rest in
        let g = as_own kind.Bool t test (good agrees t test f.0 (none_left (F t test) (K kind.Bool t test) tests))
        tests in
        let h = good agrees u a e.0 (none_left (F u a) (F v b ++ S) rest) in
        let i = good agrees v b e.1 (none_left (F v b) S last) in
        let same = sym (ap (λ o. same_faults o (kind_of d p (view_node names v b)) (start (view_node names v b)))
        h.told) ∙ none_right (F v b) S last in
        let j = good_as h.type v b (start (view_node names v b)) i same in
        record {
          placed = and_from _ _ g.placed (and_from _ _ h.placed i.placed);
          read = and_from _ _ g.read (and_from _ _ h.read i.read);
          type = h.type;
          told = h.told;
          kinded = choice_kind h.type test a b g h.kinded j.kinded;
        }
    good agrees s (nodes.Least' q t a r u b) filled none =
        let f = and_parts (node_filled (what_of d names) a) (node_filled (what_of d names) b) filled in
        let left = none_left (F t a ++ K kind.Int t a) (F u b ++ K kind.Int u b) none in
        let right = none_right (F t a ++ K kind.Int t a) (F u b ++ K kind.Int u b) none in
        let g = as_own kind.Int t a (good agrees t a f.0 (none_left (F t a) (K kind.Int t a) left)) left in
        let h = as_own kind.Int u b (good agrees u b f.1 (none_left (F u b) (K kind.Int u b) right)) right in
        two_good s (nodes.Least' q t a r u b) a b kind.Int kind.Int g h refl refl refl refl
    good agrees s (nodes.Greatest' q t a r u b) filled none =
        let f = and_parts (node_filled (what_of d names) a) (node_filled (what_of d names) b) filled in
        let left = none_left (F t a ++ K kind.Int t a) (F u b ++ K kind.Int u b) none in
        let right = none_right (F t a ++ K kind.Int t a) (F u b ++ K kind.Int u b) none in
        let g = as_own kind.Int t a (good agrees t a f.0 (none_left (F t a) (K kind.Int t a) left)) left in
        let h = as_own kind.Int u b (good agrees u b f.1 (none_left (F u b) (K kind.Int u b) right)) right in
        two_good s (nodes.Greatest' q t a r u b) a b kind.Int kind.Int g h refl refl refl refl
    good agrees s (nodes.Group' q t a) filled none =
        let g = good agrees t a filled none in
        record { placed = g.placed; read = g.read; type = g.type; told = g.told; kinded = g.kinded }

    -- an expression that must have a type, without faults
    pub good_expr : Agrees d p k → (t : ValueType) (e : Expr) → node_filled (what_of d names) e.node ≡ true →
        faults_as d p t (view_node names e.span e.node) ≡ [] → GoodAs t e.node
    good_expr agrees t e filled none = as_own t e.span e.node
        (good agrees e.span e.node filled (none_left (F e.span e.node) (K t e.span e.node) none)) none
