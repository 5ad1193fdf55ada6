-- Spellings of messages, and what is read from them.
use Rattle.std.proofs.Common.{◌≡◌, ℕ, ◌+◌, ◌-◌, ◌^◌, ◌<◌, ◌≤◌, Bool, true, false, cond, eqb, Option, Some, None, List, [], ◌∷◌, ◌++◌, length, take, drop, ◌⊎◌, inl, inr, refl, sym, ap, subst, ◌∙◌, arith}
use Rattle.std.specs.Option.{option_map}
use Rattle.std.proofs.lemmas.Bool.{ltb-false, le-ltb, eqb-true, eq-eqb, not-false, not_from_true, cond-false, cases_lt}
use Rattle.std.proofs.lemmas.List.{get_or-take, get_or-drop, get_or_past, length-take, length-drop, take_all}
use Rattle.vert_base.specs.declared.message.Name.{Name}
use Rattle.vert_base.specs.declared.message.NameKind.{NameKind}
use Rattle.vert_base.specs.declared.message.NameKind.TheVariants.{Refresh, Dep, Update, Push, Tally, Verdict}
use Rattle.body_shape.specs.declared.shape.BodyShape.{BodyShape}
use Rattle.dep_message.specs.declared.fault.MessageFault.TheVariants.{Short}
use Rattle.dep_message.specs.declared.header.Header.{Header}
use Rattle.dep_message.specs.Laws.{AcceptedIsSpelled, HeaderIsRead, SpelledOnce, SpellingIsCounted}
use Rattle.vert_base.specs.HeaderBytes.{HasSpelling, code_of, four_bytes, kind_of, name_with, number_of_four, spelled_header, spelled_message}
use Rattle.dep_message.specs.Messages.{header_in, refusal_of, refusal_of_named}
use Rattle.dep_layout.proofs.SpellingLaws.{passed, below_from_All}
use Rattle.dep_layout.proofs.WordLaws.{AreBelow}
use Rattle.state_laws.proofs.Words.{four_again, four_back}

-- ---- four bytes

below_here : (start : ℕ) (bytes : List ℕ) → AreBelow bytes → AreBelow (take 4 (drop start bytes))
below_here start bytes fits i =
    let P : ℕ → Type 0 = λ x. x < 256 in
    elim (cases_lt i 4) [
      | inl inside ↦ subst P (sym (get_or-take 4 (drop start bytes) i 0 inside ∙ get_or-drop start bytes i 0))
          (fits (start + i))
      | inr past ↦ subst P (sym (get_or_past (take 4 (drop start bytes)) i 0
          (omega (arith, length-take 4 (drop start bytes))))) (omega arith)
    ]

four_below : (bytes : List ℕ) → AreBelow bytes → number_of_four bytes < 2 ^ 32
unfolding number_of_four
four_below bytes fits = omega (arith, fits 0, fits 1, fits 2, fits 3)

-- ---- kinds

kind_of-code_of : (kind : NameKind) → kind_of (code_of kind) ≡ Some kind
kind_of-code_of Refresh = refl
kind_of-code_of Dep = refl
kind_of-code_of Update = refl
kind_of-code_of Push = refl
kind_of-code_of Tally = refl
kind_of-code_of Verdict = refl

chosen : {X : Type 0} (b : Bool) (x y z : X) → cond b x y ≡ z → ((b ≡ true) × (x ≡ z)) ⊎ ((b ≡ false) × (y ≡ z))
chosen true x y z e = inl (refl, e)
chosen false x y z e = inr (refl, e)

code_here : (code : ℕ) (here kind : NameKind) → (eqb code (code_of here) ≡ true) × (Some here ≡ Some kind) →
    code_of kind ≡ code
code_here code here kind found =
    let same : here ≡ kind = cc (found.1) in
    ap code_of (sym same) ∙ sym (eqb-true code (code_of here) found.0)

-- the code of the kind that a code stands for is that code
code_of-kind_of : (code : ℕ) (kind : NameKind) → kind_of code ≡ Some kind → code_of kind ≡ code
code_of-kind_of code kind e =
    elim (chosen (eqb code 1) _ _ _ e) [
      | inl h ↦ code_here code Refresh kind h
      | inr n ↦
          elim (chosen (eqb code 2) _ _ _ n.1) [
            | inl h ↦ code_here code Dep kind h
            | inr n ↦
                elim (chosen (eqb code 3) _ _ _ n.1) [
                  | inl h ↦ code_here code Update kind h
                  | inr n ↦
                      elim (chosen (eqb code 4) _ _ _ n.1) [
                        | inl h ↦ code_here code Push kind h
                        | inr n ↦
                            elim (chosen (eqb code 5) _ _ _ n.1) [
                              | inl h ↦ code_here code Tally kind h
                              | inr n ↦
                                  elim (chosen (eqb code 6) _ _ _ n.1)
                                  [ inl h ↦ code_here code Verdict kind h | inr n ↦ absurd (cc (n.1)) ]
                            ]
                      ]
                ]
          ]
    ]

named : (f : NameKind → Name) (o : Option NameKind) (x : Name) → option_map f o ≡ Some x → (kind : NameKind) ×
    (o ≡ Some kind) × (f kind ≡ x)
named f None x e = absurd (cc)
named f (Some kind) x e = let same : f kind ≡ x = cc in (kind, refl, same)

-- ---- what isn't refused

pub record IsWhole (bytes : List ℕ) : Type 0 where
  pub long : 13 ≤ length bytes
  pub size : 13 + (header_in bytes).size ≡ length bytes

pub whole_from_accepted : (forms : Name → Option BodyShape) (bytes : List ℕ) → refusal_of forms bytes ≡ None →
    IsWhole bytes
whole_from_accepted forms bytes accepted =
    let a = passed _ Short _ accepted in
    let b = passed _ Short _ a.1 in
    record { long = ltb-false _ _ a.0; size = eqb-true _ _ (not-false _ b.0) }

-- bytes as many as their header says are judged by the name and the body
pub refusal_of-whole : (forms : Name → Option BodyShape) (bytes : List ℕ) → IsWhole bytes →
    refusal_of forms bytes ≡ refusal_of_named forms (header_in bytes).name (drop 13 bytes)
refusal_of-whole forms bytes whole =
    cond-false _ _ _ (le-ltb _ _ whole.long) ∙ cond-false _ _ _ (not_from_true _ (eq-eqb _ _ whole.size))

pub refusal_of-named : (forms : Name → Option BodyShape) (bytes : List ℕ) (x : Name) → IsWhole bytes →
    (header_in bytes).name ≡ Some x →
    refusal_of forms bytes ≡ refusal_of_named forms (Some x) (drop 13 bytes)
refusal_of-named forms bytes x whole name =
    refusal_of-whole forms bytes whole ∙ ap (λ o. refusal_of_named forms o (drop 13 bytes)) name

some_name : (forms : Name → Option BodyShape) (o : Option Name) (body : List ℕ) → refusal_of_named forms o body ≡ None
    → (x : Name) × (o ≡ Some x)
some_name forms None body e = absurd (cc)
some_name forms (Some x) body e = (x, refl)

-- ---- from bytes to a message

-- the bytes of a message by its parts
abbrev layout : ℕ → List ℕ → ℕ → ℕ → ℕ → ℕ → List ℕ → List ℕ → List ℕ
layout code round step half from to size body = (code ∷ round ++ step ∷ half ∷ from ∷ to ∷ size) ++ body

-- whole bytes are the spelling of what is read from them
pub spelled_from_whole : (bytes : List ℕ) (x : Name) → AreBelow bytes → 13 ≤ length bytes →
    13 + (header_in bytes).size ≡ length bytes → (header_in bytes).name ≡ Some x →
    spelled_message x (drop 13 bytes) ≡ bytes
spelled_from_whole [] x fits long size name = absurd (omega arith)
spelled_from_whole (a ∷ []) x fits long size name = absurd (omega arith)
spelled_from_whole (a ∷ b ∷ []) x fits long size name = absurd (omega arith)
spelled_from_whole (a ∷ b ∷ c ∷ []) x fits long size name = absurd (omega arith)
spelled_from_whole (a ∷ b ∷ c ∷ d ∷ []) x fits long size name = absurd (omega arith)
spelled_from_whole (a ∷ b ∷ c ∷ d ∷ e ∷ []) x fits long size name = absurd (omega arith)
spelled_from_whole (a ∷ b ∷ c ∷ d ∷ e ∷ s ∷ []) x fits long size name = absurd (omega arith)
spelled_from_whole (a ∷ b ∷ c ∷ d ∷ e ∷ s ∷ h ∷ []) x fits long size name = absurd (omega arith)
spelled_from_whole (a ∷ b ∷ c ∷ d ∷ e ∷ s ∷ h ∷ f ∷ []) x fits long size name = absurd (omega arith)
spelled_from_whole (a ∷ b ∷ c ∷ d ∷ e ∷ s ∷ h ∷ f ∷ t ∷ []) x fits long size name = absurd (omega arith)
spelled_from_whole (a ∷ b ∷ c ∷ d ∷ e ∷ s ∷ h ∷ f ∷ t ∷ i ∷ []) x fits long size name = absurd (omega arith)
spelled_from_whole (a ∷ b ∷ c ∷ d ∷ e ∷ s ∷ h ∷ f ∷ t ∷ i ∷ j ∷ []) x fits long size name = absurd (omega arith)
spelled_from_whole (a ∷ b ∷ c ∷ d ∷ e ∷ s ∷ h ∷ f ∷ t ∷ i ∷ j ∷ k ∷ []) x fits long size name = absurd (omega arith)
spelled_from_whole (a ∷ b ∷ c ∷ d ∷ e ∷ s ∷ h ∷ f ∷ t ∷ i ∷ j ∷ k ∷ l ∷ body) x fits long size name =
    let bytes = a ∷ b ∷ c ∷ d ∷ e ∷ s ∷ h ∷ f ∷ t ∷ i ∷ j ∷ k ∷ l ∷ body in
    let round = b ∷ c ∷ d ∷ e ∷ [] in
    let count = i ∷ j ∷ k ∷ l ∷ [] in
    let found = named (name_with bytes) (kind_of a) x name in
    let many : length body ≡ number_of_four (i ∷ j ∷ k ∷ l ∷ []) = omega arith in
    ap (λ y. spelled_message y body) (sym found.2)
    ∙ ap (λ code. layout code (four_bytes (number_of_four round)) s h f t (four_bytes (length body)) body)
    (code_of-kind_of a found.0 found.1)
    ∙ ap (λ four. layout a four s h f t (four_bytes (length body)) body)
    (four_again round refl (below_here 1 bytes fits))
    ∙ ap (λ n. layout a round s h f t (four_bytes n) body) many
    ∙ ap (λ four. layout a round s h f t four body) (four_again count refl (below_here 9 bytes fits))

pub spelling_from_whole : (bytes : List ℕ) (x : Name) → AreBelow bytes → IsWhole bytes →
    (header_in bytes).name ≡ Some x → HasSpelling x (drop 13 bytes)
spelling_from_whole bytes x fits whole name =
    let found = named (name_with bytes) _ x name in
    let Below : Name → Type 0 = λ y. y.round < 2 ^ 32 in
    record {
      round = subst Below found.2 (four_below (take 4 (drop 1 bytes)) (below_here 1 bytes fits));
      size = omega (
        arith,
        whole.long,
        whole.size,
        length-drop 13 bytes,
        four_below (take 4 (drop 9 bytes)) (below_here 9 bytes fits),
      );
    }

-- ---- from a message to bytes

abbrev header_with : Option Name → ℕ → Header
header_with name size = record { name = name; size = size }

abbrev with_round : Name → ℕ → Name
with_round x round = record { kind = x.kind; round = round; step = x.step; half = x.half; from = x.from; to = x.to }

pub header_law : HeaderIsRead
unfolding four_bytes
header_law x size rest round_fits size_fits =
    let bytes = spelled_header x size ++ rest in
    ap (λ kind. header_with (option_map (name_with bytes) kind) (number_of_four (take 4 (drop 9 bytes))))
    (kind_of-code_of x.kind)
    ∙ ap (λ round. header_with (Some (with_round x round)) (number_of_four (take 4 (drop 9 bytes))))
    (four_back x.round round_fits)
    ∙ ap (λ n. header_with (Some x) n) (four_back size size_fits)

-- the header of what a message is spelled as
header-spelled : (x : Name) (body : List ℕ) → HasSpelling x body →
    header_in (spelled_message x body) ≡ header_with (Some x) (length body)
header-spelled x body spelling = header_law x (length body) body spelling.round spelling.size

body-spelled : (x : Name) (body : List ℕ) → drop 13 (spelled_message x body) ≡ body
unfolding four_bytes
body-spelled x body = refl

pub length-spelled : SpellingIsCounted
unfolding four_bytes
length-spelled x body = omega arith

whole-spelled : (x : Name) (body : List ℕ) → HasSpelling x body → IsWhole (spelled_message x body)
whole-spelled x body spelling =
    let size = ap (λ (h : Header). h.size) (header-spelled x body spelling) in
    record { long = omega (arith, length-spelled x body); size = ap (λ n. 13 + n) size ∙ sym (length-spelled x body) }

pub once_law : SpelledOnce
once_law x y a b one other same =
    let headers : header_with (Some x) (length a) ≡ header_with (Some y) (length b) =
    sym (header-spelled x a one) ∙ ap header_in same ∙ header-spelled y b other in
    let names : Some x ≡ Some y = ap (λ (h : Header). h.name) headers in
    let name : x ≡ y = cc in
    (name, sym (body-spelled x a) ∙ ap (λ bytes. drop 13 bytes) same ∙ body-spelled y b)

-- a message is judged by its name and its body
pub refusal_of-spelled : (forms : Name → Option BodyShape) (x : Name) (body : List ℕ) → HasSpelling x body →
    refusal_of forms (spelled_message x body) ≡ refusal_of_named forms (Some x) body
refusal_of-spelled forms x body spelling =
    let name = ap (λ (h : Header). h.name) (header-spelled x body spelling) in
    refusal_of-named forms (spelled_message x body) x (whole-spelled x body spelling) name
    ∙ ap (λ b. refusal_of_named forms (Some x) b) (body-spelled x body)

-- ---- what is read

-- a message that bytes spell, with what is known of it
pub record IsRead (forms : Name → Option BodyShape) (bytes : List ℕ) (x : Name) (body : List ℕ) : Type 0 where
  pub has_spelling : HasSpelling x body
  pub judged : refusal_of_named forms (Some x) body ≡ None
  pub spelled : spelled_message x body ≡ bytes

pub read_from_accepted : (forms : Name → Option BodyShape) (bytes : List ℕ) (x : Name) → AreBelow bytes →
    refusal_of forms bytes ≡ None → (header_in bytes).name ≡ Some x →
    IsRead forms bytes x (drop 13 bytes)
read_from_accepted forms bytes x fits accepted name =
    let whole = whole_from_accepted forms bytes accepted in
    record {
      has_spelling = spelling_from_whole bytes x fits whole name;
      judged = sym (refusal_of-named forms bytes x whole name) ∙ accepted;
      spelled = spelled_from_whole bytes x fits whole.long whole.size name;
    }

pub accepted_law : AcceptedIsSpelled
accepted_law forms bytes fits accepted =
    let whole = whole_from_accepted forms bytes accepted in
    let name = some_name forms _ (drop 13 bytes) (sym (refusal_of-whole forms bytes whole) ∙ accepted) in
    let read = read_from_accepted forms bytes name.0 (below_from_All bytes fits) accepted name.1 in
    (name.0, drop 13 bytes, read.has_spelling, read.judged, read.spelled)

-- the bytes behind the header, as a slice of all bytes
pub behind_header : (bytes : List ℕ) → take (length bytes - 13) (drop 13 bytes) ≡ drop 13 bytes
behind_header bytes = take_all (length bytes - 13) (drop 13 bytes) (omega (arith, length-drop 13 bytes))
