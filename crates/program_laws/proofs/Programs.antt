-- The header, the names, the blocks, and programs.
use Rattle.std.proofs.Common.{◌≡◌, ℕ, ◌≤◌, Bool, true, false, List, [], ◌∷◌, ◌++◌, length, Option, None, Some, refl, sym, ap, ◌∙◌, arith, append_assoc}
use Rattle.std.specs.Prelude.{◌==◌}
use Rattle.std.specs.List.{AllByRecursion}
use Rattle.std.proofs.lemmas.Bool.{and_right}
use Rattle.vert_base.specs.declared.text.Span.{Span}
use Rattle.vert_base.specs.declared.value.Mode.{Mode}
use Rattle.vert_lex.specs.declared.marks.TheConstants as mark
use Rattle.vert_lex.specs.declared.words.TheConstants as word
use Rattle.vert_lex.specs.Text.{Placed}
use Rattle.vert_lex.specs.Tokens.{Kind, Reserved, Mark, Name}
use Rattle.vert_tree.specs.Trees.{Tree, Statements, Declaration, SlotDeclaration, TotalDeclaration, DenseBlock, SparseBlock, ProgramTree}
use Rattle.vert_grammar.specs.Grammar.{Form, Limits, Then, Sign, Each, Maybe, Given, InTwo, ReadsSlot, ReadsTotal, ReadsSparse, ReadsUpdate, ReadsStart, ReadsStop, ReadsVersion, ReadsHeader, ReadsProgram, IsShallowDense, IsShallowSparse, IsShallow, IsSmall}
use Rattle.vert_grammar.specs.Reading.{both, both_by, begins, up_to, maybe, slot_at, total_at, dense_at, sparse_at, update_at, start_at, stop_at, Header, header_at, DeclaredNames, is_total, names_at, ProgramBlocks, is_stop, blocks_at, program_of, program_at}
use Rattle.vert_grammar.specs.Signs.{same, is_word, is_named, total_text, stop_text}
use Rattle.grammar_laws.specs.Notions.{Covers, SameHead, Notion, IsReader, IsImage, Follows, both_notion, both_by_notion, free_notion}
use Rattle.grammar_laws.proofs.Readers.{begins_same}
use Rattle.grammar_laws.proofs.Atoms.{PlacedNumber}
use Rattle.grammar_laws.proofs.Lists.{list_notion, all_wider}
use Rattle.grammar_laws.proofs.Laws.{both_reader, both_by_reader, made_reader, up_to_reader}
use Rattle.grammar_laws.proofs.Either.{MaybeEnds, maybe_notion, maybe_reader, maybe_ahead, given_wider}
use Rattle.program_laws.proofs.Parts.{Reader, sign, then, sign_then, keeps, signs, then_map, known, signed, then_values, begins_front}
use Rattle.program_laws.proofs.Words.{a_version, a_mode, a_number, PlacedMode}
use Rattle.vert_base.proofs.Chains.{and_second}
use Rattle.program_laws.proofs.Declarations.{opens_with, reopened, declaration_notion, slot_notion, slot_reader, total_notion, total_reader}
use Rattle.program_laws.proofs.Sections.{declarations, dense_notion, dense_reader, sparse_notion, sparse_block_reader, update_notion, update_block_reader, test_notion, start_reader, stop_reader}
use Rattle.program_laws.proofs.Versions.{chain_notion, chain_reader, two_notion, two_reader, no_list_reader, no_option_reader}

-- ---- the header
abbrev HeaderParts : Type 0
HeaderParts = Span × (ℕ × (Span × (Span × ((Span × Mode) × (Span × (Span × ((Span × ℕ) × Span)))))))

abbrev header_parts : Reader HeaderParts
header_parts =
    sign_then (Reserved word.VERTEX) (then a_version
    (sign_then (Mark mark.SEMICOLON) (sign_then (Reserved word.MODE) (then a_mode (sign_then (Mark mark.SEMICOLON)
    (sign_then (Reserved word.LIMIT) (then a_number (sign (Mark mark.SEMICOLON)) (λ x y v r h f. tt))))
    (λ x y v r h f. tt)))) (λ x y v r h f. tt))

abbrev header_of : HeaderParts → Header
header_of x = (x.1.0, (x.1.1.1.1.0, x.1.1.1.1.1.1.1.0))

abbrev pub header_notion : Notion Header
header_notion = free_notion (λ h. ReadsHeader h.0 h.1.0.0 h.1.0.1 h.1.1.0 h.1.1.1)

header_image : IsImage header_parts.notion header_notion header_of
header_image = record {
  form = λ x.
      then_map (signs x.0 (Reserved word.VERTEX))
      (then_map (keeps (ReadsVersion x.1.0))
      (then_map (signs x.1.1.0 (Mark mark.SEMICOLON)) (then_map (signs x.1.1.1.0 (Reserved word.MODE))
      (then_map (keeps (PlacedMode x.1.1.1.1.0))
      (then_map (signs x.1.1.1.1.1.0 (Mark mark.SEMICOLON)) (then_map (signs x.1.1.1.1.1.1.0 (Reserved word.LIMIT))
      (then_map (keeps (PlacedNumber x.1.1.1.1.1.1.1.0)) (signs x.1.1.1.1.1.1.1.1 (Mark mark.SEMICOLON)))))))));
  within = λ l x h. tt;
  shallow = λ b x h. tt;
  follow = λ x r h. tt;
  back = λ y u h.
      let b = then_values (signed (Reserved word.VERTEX))
      (then_values (known ReadsVersion y.0)
      (then_values (signed (Mark mark.SEMICOLON)) (then_values (signed (Reserved word.MODE))
      (then_values (known PlacedMode y.1.0)
      (then_values (signed (Mark mark.SEMICOLON))
      (then_values (signed (Reserved word.LIMIT))
      (then_values (known PlacedNumber y.1.1) (signed (Mark mark.SEMICOLON))))))))) u h in
      (b.0, refl, b.1, λ l w. (tt, (tt, (tt, (tt, (tt, (tt, (tt, (tt, tt)))))))));
  follow_back = λ x r h. tt;
}

pub header_reader : IsReader header_notion (λ l. header_at)
unfolding header_at
header_reader = made_reader header_parts.notion header_notion header_of header_parts.run header_image header_parts.law

-- ---- lists and parts that may be empty
abbrev slots_notion : Notion (List SlotDeclaration)
slots_notion = list_notion slot_notion (is_word word.SLOT) (λ l. l.slots) (λ k l c. c.slots)

pub slots_reader : IsReader slots_notion (λ l. up_to (is_word word.SLOT) slot_at l.slots)
slots_reader =
    up_to_reader slot_notion (is_word word.SLOT) (λ l. slot_at) (λ l. l.slots) (λ k l c. c.slots) (λ x r. tt)
    (λ x u r h. opens_with (Reserved word.SLOT) u r h)
    (λ l t pos e. let w = slot_reader.word l pos in (w.0, w.2.back, reopened (Reserved word.SLOT) t w.1 e w.2, tt))
    slot_reader

abbrev pub totals_notion : ℕ → Notion (List TotalDeclaration)
totals_notion version = list_notion (two_notion version total_notion) (is_total version) (λ l. l.totals) (λ k l c.
    c.totals)

abbrev pub stop_notion : ℕ → Notion Tree
stop_notion version = two_notion version (test_notion ReadsStop)

-- a list after which a token of its own can't stand unless something came behind
abbrev Unless : {A : Type 0} → List A → Type 0 → Type 0
Unless [] P = P
Unless (x ∷ xs) P = Unit {0}

unless : {A : Type 0} (xs : List A) (P : Type 0) → P → Unless xs P
unless [] P h = h
unless (x ∷ xs) P h = tt

unless_map : {A : Type 0} (xs : List A) (P Q : Type 0) → (P → Q) → Unless xs P → Unless xs Q
unless_map [] P Q f h = f h
unless_map (x ∷ xs) P Q f h = tt

module _ (version : ℕ) where
  -- ---- totals and stop, by the version
  totals_by : (v : Bool) → (version == 2) ≡ v →
      IsReader (totals_notion version) (λ l. up_to (is_total version) (total_at l.depth) l.totals)
  totals_by true e =
      up_to_reader (two_notion version total_notion) (is_total version) (λ l. total_at l.depth) (λ l. l.totals)
      (λ k l c. c.totals) (λ x r. tt)
      (λ x u r h. (let o = opens_with (Name total_text) u r h.1.1 in let b = begins_two e u r o in b))
      (λ l t pos o. let w = total_reader.word l pos in (
        w.0,
        w.2.1.back,
        (
          e,
          (
            w.2.0,
            reopened (Name total_text) t w.1
                (and_second (version == 2) (is_named total_text t.kind) o) w.2.1,
          ),
        ),
        w.3,
      ))
      (two_reader version total_notion (λ l. total_at l.depth) e total_reader)
    where
      begins_two : (version == 2) ≡ true → (u r : List Placed) → begins (λ x. same x (Name total_text)) (u ++ r)
          ≡ true → begins (is_total version) (u ++ r) ≡ true
      begins_two e u r o = go (u ++ r) o
        where
          go : (l : List Placed) → begins (λ x. same x (Name total_text)) l ≡ true → begins (is_total version) l ≡ true
          go [] o = absurd cc
          go (t ∷ l) o = rw (e, o) refl
  totals_by false e = no_list_reader (two_notion version total_notion) (is_total version) (λ k. rw e refl) (λ x u h.
      (let q = h.0 in cc)) (λ l. total_at l.depth) (λ l. l.totals) (λ k l c. c.totals)

  stop_by : (v : Bool) → (version == 2) ≡ v →
      IsReader (maybe_notion (stop_notion version) (is_stop version)) (λ l. maybe (is_stop version) (stop_at l.depth))
  stop_by true e =
      maybe_reader (stop_notion version) (is_stop version) (λ x u r h.
      go (u ++ r) (opens_with (Name stop_text) u r h.1)) (λ l. stop_at l.depth)
      (two_reader version (test_notion ReadsStop) (λ l. stop_at l.depth) e stop_reader)
    where
      go : (l : List Placed) → begins (λ x. same x (Name stop_text)) l ≡ true → begins (is_stop version) l ≡ true
      go [] o = absurd cc
      go (t ∷ l) o = rw (e, o) refl
  stop_by false e = no_option_reader (stop_notion version) (is_stop version) (λ k. rw e refl) (λ x u h.
      (let q = h.0 in cc)) (λ l. stop_at l.depth)

-- ---- what stands in front of a list, and of what is behind it
module _ {A : Type 0} (P : A → Form) (g : Kind → Bool) (other : (x : A) (u r : List Placed) → P x u →
    begins g (u ++ r) ≡ false) where
  before_list : (xs : List A) (v r : List Placed) → Each P xs v → Unless xs (begins g r ≡ false) →
      begins g (v ++ r) ≡ false
  before_list [] v r h e = ap (λ l. begins g (l ++ r)) h ∙ e
  before_list (x ∷ xs) v r h e = ap (λ l. begins g (l ++ r)) h.whole ∙ ap (begins g) (append_assoc h.front h.back r)
      ∙ other x h.front (h.back ++ r) h.first

  after_list : (xs : List A) (v r : List Placed) → Each P xs v → begins g (v ++ r) ≡ false →
      Unless xs (begins g r ≡ false)
  after_list [] v r h e = sym (ap (λ l. begins g (l ++ r)) h) ∙ e
  after_list (x ∷ xs) v r h e = tt

then_begins : {P Q : Form} (g : Kind → Bool) (v r : List Placed) (h : Then P Q v) →
    begins g (v ++ r) ≡ begins g (h.front ++ (h.back ++ r))
then_begins g v r h = ap (λ l. begins g (l ++ r)) h.whole ∙ ap (begins g) (append_assoc h.front h.back r)

sign_begins : {Q : Form} (g : Kind → Bool) (k : Kind) (v r : List Placed) → Then (Sign k) Q v → begins g (v ++ r) ≡ g k
sign_begins g k v r h = begins_front g h.first.0 k v h.back r (h.whole ∙ ap (λ l. l ++ h.back) h.first.1)

module _ (version : ℕ) where
  other_slot : (x : SlotDeclaration) (u r : List Placed) → ReadsSlot x u → begins (is_word word.FIELD) (u ++ r) ≡ false
  other_slot x u r h = sign_begins (is_word word.FIELD) (Reserved word.SLOT) u r h

  other_total : (place : ℕ) (x : TotalDeclaration) (u r : List Placed) → InTwo version (ReadsTotal x) u →
      begins (is_word place) (u ++ r) ≡ false
  other_total place x u r h = sign_begins (is_word place) (Name total_text) u r h.1.1

  -- ---- slots and totals
  abbrev SlotEnds : List SlotDeclaration × List TotalDeclaration → Form
  SlotEnds z r = Unless z.1 (begins (is_word word.SLOT) r ≡ false)

  slot_ends_same : (z : List SlotDeclaration × List TotalDeclaration) (a b : List Placed) → SameHead a b →
      SlotEnds z b → SlotEnds z a
  slot_ends_same z a b sh h = unless_map z.1 _ _ (λ e. begins_same (is_word word.SLOT) a b sh ∙ e) h

  abbrev slots_totals : Notion (List SlotDeclaration × List TotalDeclaration)
  slots_totals = chain_notion slots_notion (totals_notion version) SlotEnds slot_ends_same

  -- ---- and fields
  abbrev pub fields_notion : Notion (List Declaration)
  fields_notion = list_notion (declaration_notion word.FIELD) (is_word word.FIELD) (λ l. l.fields) (λ k l c. c.fields)

  abbrev FieldEnds : DeclaredNames → Form
  FieldEnds z r = Unless z.1.0 (Unless z.1.1 (begins (is_word word.FIELD) r ≡ false))

  field_ends_same : (z : DeclaredNames) (a b : List Placed) → SameHead a b → FieldEnds z b → FieldEnds z a
  field_ends_same z a b sh h = unless_map z.1.0 _ _ (λ k.
      unless_map z.1.1 _ _ (λ e. begins_same (is_word word.FIELD) a b sh ∙ e) k) h

  abbrev names_notion : Notion DeclaredNames
  names_notion = chain_notion fields_notion slots_totals FieldEnds field_ends_same

  -- ---- the blocks
  abbrev pub blocks_notion : Notion ProgramBlocks
  blocks_notion =
      both_notion (maybe_notion dense_notion (is_word word.DENSE))
      (both_notion (maybe_notion sparse_notion (is_word word.SPARSE))
      (both_notion update_notion (maybe_notion (stop_notion version) (is_stop version))))

  names_reader : IsReader names_notion (λ l. names_at version l)
  unfolding names_at
  names_reader =
      chain_reader fields_notion slots_totals FieldEnds field_ends_same
      (λ x y v r h f e. then_begins (is_word word.FIELD) v r h
      ∙ before_list ReadsSlot (is_word word.FIELD) other_slot y.0 h.front (h.back ++ r) h.first
      (unless_map y.0 _ _ (λ k. before_list (λ d. InTwo version (ReadsTotal d)) (is_word word.FIELD)
      (other_total word.FIELD) y.1 h.back r h.second k) e))
      (λ x y v r h f e. unless_map y.0 _ _ (λ k.
      after_list (λ d. InTwo version (ReadsTotal d)) (is_word word.FIELD) (other_total word.FIELD) y.1 h.back r
      h.second k)
      (after_list ReadsSlot (is_word word.FIELD) other_slot y.0 h.front (h.back ++ r) h.first
      (sym (then_begins (is_word word.FIELD) v r h) ∙ e)))
      (declarations word.FIELD (λ l. l.fields) (λ k l c. c.fields)).run (λ l.
      both (up_to (is_word word.SLOT) slot_at l.slots) (up_to (is_total version) (total_at l.depth) l.totals))
      (declarations word.FIELD (λ l. l.fields) (λ k l c. c.fields)).law
      (chain_reader slots_notion (totals_notion version) SlotEnds slot_ends_same
      (λ x y v r h f e. before_list (λ d. InTwo version (ReadsTotal d)) (is_word word.SLOT) (other_total word.SLOT) y
      v r h e)
      (λ x y v r h f e. after_list (λ d. InTwo version (ReadsTotal d)) (is_word word.SLOT) (other_total word.SLOT) y v
      r h e)
      (λ l. up_to (is_word word.SLOT) slot_at l.slots) (λ l. up_to (is_total version) (total_at l.depth) l.totals)
      slots_reader (totals_by version (version == 2) refl))

  -- ---- blocks that may be missing
  abbrev dense_part : Reader (Option DenseBlock)
  dense_part = record {
    notion = maybe_notion dense_notion (is_word word.DENSE);
    run = λ l. maybe (is_word word.DENSE) (dense_at l);
    law = maybe_reader dense_notion (is_word word.DENSE) (λ x u r h. opens_with (Reserved word.DENSE) u r h) (λ l.
        dense_at l) dense_reader;
  }

  abbrev sparse_part : Reader (Option SparseBlock)
  sparse_part = record {
    notion = maybe_notion sparse_notion (is_word word.SPARSE);
    run = λ l. maybe (is_word word.SPARSE) (sparse_at l);
    law = maybe_reader sparse_notion (is_word word.SPARSE) (λ x u r h. opens_with (Reserved word.SPARSE) u r h) (λ l.
        sparse_at l) sparse_block_reader;
  }

  abbrev update_part : Reader Statements
  update_part = record { notion = update_notion; run = λ l. update_at l.depth; law = update_block_reader }

  abbrev stop_part : Reader (Option Tree)
  stop_part = record {
    notion = maybe_notion (stop_notion version) (is_stop version);
    run = λ l. maybe (is_stop version) (stop_at l.depth);
    law = stop_by version (version == 2) refl;
  }

  blocks_reader : IsReader blocks_notion (λ l. blocks_at version l)
  unfolding blocks_at
  blocks_reader =
      (then dense_part (then sparse_part (then update_part stop_part (λ x y v r h f. tt)) (λ x y v r h f.
      sparse_ends x y v r h)) (λ x y v r h f. dense_ends x y v r h)).law
    where
      sparse_ends : (x : Option SparseBlock) (y : Statements × Option Tree) (v r : List Placed) →
          Then (ReadsUpdate y.0) (Maybe (stop_notion version).form y.1) v →
          MaybeEnds sparse_notion (is_word word.SPARSE) x (v ++ r)
      sparse_ends (Some x) y v r h = tt
      sparse_ends None y v r h = then_begins (is_word word.SPARSE) v r h
          ∙ sign_begins (is_word word.SPARSE) (Reserved word.UPDATE) h.front (h.back ++ r) h.first

      dense_ends : (x : Option DenseBlock) (y : Option SparseBlock × (Statements × Option Tree)) (v r : List Placed)
          → Then (Maybe ReadsSparse y.0) (Then (ReadsUpdate y.1.0) (Maybe (stop_notion version).form y.1.1)) v →
          MaybeEnds dense_notion (is_word word.DENSE) x (v ++ r)
      dense_ends (Some x) y v r h = tt
      dense_ends None (None, y) v r h =
          then_begins (is_word word.DENSE) v r h ∙ ap (λ l. begins (is_word word.DENSE) (l ++ (h.back ++ r))) h.first
          ∙ then_begins (is_word word.DENSE) h.back r h.second
          ∙ sign_begins (is_word word.DENSE) (Reserved word.UPDATE) h.second.front (h.second.back ++ r) h.second.first
      dense_ends None (Some x, y) v r h = then_begins (is_word word.DENSE) v r h
          ∙ sign_begins (is_word word.DENSE) (Reserved word.SPARSE) h.front (h.back ++ r) h.first

  -- ---- what stands behind the header
  abbrev body_notion : Notion (DeclaredNames × (Tree × ProgramBlocks))
  body_notion = both_notion names_notion (both_notion (test_notion ReadsStart) blocks_notion)

  body_reader : IsReader body_notion (λ l. both (names_at version l) (both (start_at l.depth) (blocks_at version l)))
  body_reader =
      both_reader names_notion (both_notion (test_notion ReadsStart) blocks_notion) (λ l. names_at version l) (λ l.
      both (start_at l.depth) (blocks_at version l)) names_follow names_reader
      (both_reader (test_notion ReadsStart) blocks_notion (λ l. start_at l.depth) (λ l. blocks_at version l)
      (λ x y v r h f. tt) start_reader blocks_reader)
    where
      names_follow : Follows names_notion (both_notion (test_notion ReadsStart) blocks_notion)
      names_follow x y v r h f =
          let at : (g : Kind → Bool) → begins g (v ++ r) ≡ g (Reserved word.START) = λ g. then_begins g v r h
          ∙ sign_begins g (Reserved word.START) h.front (h.back ++ r) h.first in (
            (at (is_total version) ∙ and_right (version == 2) false refl, unless x.1.1 _ (at (is_word word.SLOT))),
            unless x.1.0 _ (unless x.1.1 _ (at (is_word word.FIELD))),
          )

-- ---- programs
given_map : {A : Type 0} (P Q : A → Type 0) (o : Option A) → ((x : A) → P x → Q x) → Given P o → Given Q o
given_map P Q None f h = tt
given_map P Q (Some x) f h = f x h

given_both : {A : Type 0} (P Q : A → Type 0) (o : Option A) → Given P o → Given Q o → Given (λ x. P x × Q x) o
given_both P Q None h k = tt
given_both P Q (Some x) h k = (h, k)

all_free : {A : Type 0} (xs : List A) → AllByRecursion (λ x. Unit {0}) xs
all_free [] = tt
all_free (x ∷ xs) = (tt, all_free xs)

pub small_wider : (l m : Limits) (p : ProgramTree) → Covers l m → IsSmall l p → IsSmall m p
small_wider l m p c h =
    let dense = given_wider dense_notion l m p.dense c
    (given_both (IsShallowDense l.depth) (λ d. length d.lets ≤ l.lets) p.dense h.shallow.dense h.lets) in
    let sparse = given_wider sparse_notion l m p.sparse c
    (given_both (IsShallowSparse l.depth) (λ d. length d.sends ≤ l.sends) p.sparse h.shallow.sparse h.sends) in
    record {
      shallow = record {
        fields = all_wider (declaration_notion word.FIELD) p.fields l m c h.shallow.fields;
        totals = all_wider total_notion p.totals l m c h.shallow.totals;
        start = (let k = c.depth in let q = h.shallow.start in omega arith);
        dense = given_map (dense_notion.within m) (IsShallowDense m.depth) p.dense (λ d k. k.0) dense;
        sparse = given_map (sparse_notion.within m) (IsShallowSparse m.depth) p.sparse (λ d k. k.0) sparse;
        update = (let k = c.depth in let q = h.shallow.update in omega arith);
        stop = given_wider (test_notion ReadsStop) l m p.stop c h.shallow.stop;
      };
      fields = (let k = c.fields in let q = h.fields in omega arith);
      slots = (let k = c.slots in let q = h.slots in omega arith);
      totals = (let k = c.totals in let q = h.totals in omega arith);
      lets = given_map (dense_notion.within m) (λ d. length d.lets ≤ m.lets) p.dense (λ d k. k.1) dense;
      sends = given_map (sparse_notion.within m) (λ d. length d.sends ≤ m.sends) p.sparse (λ d k. k.1) sparse;
    }

-- No `stop` of version 2 may stand behind a program that has none.
abbrev pub ProgramEnds : ProgramTree → Form
ProgramEnds p = MaybeEnds (stop_notion p.version) (is_stop p.version) p.stop

abbrev pub program_notion : Notion ProgramTree
program_notion = record {
  form = ReadsProgram;
  within = IsSmall;
  shallow = IsShallow;
  follow = ProgramEnds;
  wider = small_wider;
  weaker = λ l p h. h.shallow;
  ahead = λ p. maybe_ahead (stop_notion p.version) (is_stop p.version) p.stop;
}

abbrev program_parts : Notion (Header × (DeclaredNames × (Tree × ProgramBlocks)))
program_parts = both_by_notion header_notion (λ h. body_notion h.0)

parts_reader : IsReader program_parts (λ l.
    both_by header_at (λ h. both (names_at h.0 l) (both (start_at l.depth) (blocks_at h.0 l))))
parts_reader =
    both_by_reader header_notion (λ h. body_notion h.0) (λ l. header_at) (λ h l.
    both (names_at h.0 l) (both (start_at l.depth) (blocks_at h.0 l))) (λ x y v r h f. tt) header_reader (λ h.
    body_reader h.0)

program_image : IsImage program_parts program_notion program_of
program_image = record {
  form = λ x u h. h;
  within = λ l x h. record {
    shallow = record {
      fields = h.1.0.0.0;
      totals = h.1.0.1.1.0;
      start = h.1.1.0;
      dense = given_map (dense_notion.within l) (IsShallowDense l.depth) x.1.1.1.0 (λ d k. k.0) h.1.1.1.0;
      sparse = given_map (sparse_notion.within l) (IsShallowSparse l.depth) x.1.1.1.1.0 (λ d k. k.0) h.1.1.1.1.0;
      update = h.1.1.1.1.1.0;
      stop = h.1.1.1.1.1.1;
    };
    fields = h.1.0.0.1;
    slots = h.1.0.1.0.1;
    totals = h.1.0.1.1.1;
    lets = given_map (dense_notion.within l) (λ d. length d.lets ≤ l.lets) x.1.1.1.0 (λ d k. k.1) h.1.1.1.0;
    sends = given_map (sparse_notion.within l) (λ d. length d.sends ≤ l.sends) x.1.1.1.1.0 (λ d k. k.1) h.1.1.1.1.0;
  };
  shallow = λ b x h. record {
    fields = h.1.0.0;
    totals = h.1.0.1.1;
    start = h.1.1.0;
    dense = h.1.1.1.0;
    sparse = h.1.1.1.1.0;
    update = h.1.1.1.1.1.0;
    stop = h.1.1.1.1.1.1;
  };
  follow = λ x r h. h;
  back = λ y u h. (
    (
      (y.version, ((y.mode_at, y.mode), (y.limit_at, y.limit))),
      ((y.fields, (y.slots, y.totals)), (y.start, (y.dense, (y.sparse, (y.update, y.stop))))),
    ),
    refl,
    h,
    λ l w. (
      tt,
      (
        ((w.shallow.fields, w.fields), ((all_free y.slots, w.slots), (w.shallow.totals, w.totals))),
        (
          w.shallow.start,
          (
            given_both (IsShallowDense l.depth) (λ d. length d.lets ≤ l.lets) y.dense w.shallow.dense w.lets,
            (
              given_both (IsShallowSparse l.depth) (λ d. length d.sends ≤ l.sends) y.sparse w.shallow.sparse w.sends,
              (w.shallow.update, w.shallow.stop),
            ),
          ),
        ),
      ),
    ),
  );
  follow_back = λ x r h. h;
}

pub program_reader : IsReader program_notion (λ l. program_at l)
unfolding program_at
program_reader = made_reader program_parts program_notion program_of (λ l.
    both_by header_at (λ h. both (names_at h.0 l) (both (start_at l.depth) (blocks_at h.0 l)))) program_image
    parts_reader
