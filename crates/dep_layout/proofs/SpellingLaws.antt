-- One spelling for each list of states.
use Rattle.std.proofs.Common.{◌≡◌, ℕ, ◌*◌, ◌<◌, ◌≤◌, Bool, true, false, cond, Option, Some, None, Result, Ok, Err, IfOk, List, ◌++◌, length, map, take, drop, refl, sym, ap, subst, inl, inr, ◌∙◌, arith}
use Rattle.std.specs.List.{flat_map, list_all, list_any}
use Rattle.std.proofs.lemmas.Bool.{ltb-false, le-ltb, eqb-true, eq-eqb, not-false, not_from_true, cases_lt, cond-false}
use Rattle.std.proofs.lemmas.List.{append-nil, length-append, length-take-le, length-map, take_at, drop_at, take-append-drop, drop_all, get_or_past}
use Rattle.std.proofs.lemmas.List.Elements.{All-take, All-get_or}
use Rattle.dep_layout.specs.declared.fault.DepFault.TheVariants.{Length, Bits, Padding, NotBool}
use Rattle.dep_layout.specs.Spelling.{State, mark_of, mark_bytes, sent_bytes, spelled, are_typed, Spells}
use Rattle.dep_layout.specs.Judgement.{mark_len, pairs_in, is_both, is_set, started, rows_in, refusal_of_parts, refusal_of}
use Rattle.dep_layout.specs.Reading.{read_of, states_in}
use Rattle.dep_layout.specs.Laws.{AreBytes, AcceptedIsSpelled, SpelledIsAccepted, SpelledOnce, ReadsBack}
use Rattle.dep_layout.proofs.MarkLaws.{length-pairs, pairs-mark_bytes, mark_bytes-pairs}
use Rattle.dep_layout.proofs.WordLaws.{AreBelow, drop_below}
use Rattle.dep_layout.proofs.StateLaws.{pairs_from, bytes-states_in, states_again, length-sent, typed-sent, none_both, states-states_in, length-states_in, marks-states_in}

-- a test that didn't refuse
pub passed : {X : Type 0} (b : Bool) (fault : X) (rest : Option X) → cond b (Some fault) rest ≡ None → (b ≡ false) ×
    (rest ≡ None)
passed true fault rest e = cc
passed false fault rest e = (refl, e)

-- what parts have that aren't refused
pub record AreSound (width bools vertices : ℕ) (marks words : List ℕ) : Type 0 where
  pub one : list_any is_both (take vertices (pairs_in marks)) ≡ false
  pub behind : list_any is_set (drop vertices (pairs_in marks)) ≡ false
  pub count : length words ≡ 8 * width * started (take vertices (pairs_in marks))
  pub typed : list_all (are_typed bools) (rows_in width (started (take vertices (pairs_in marks))) words) ≡ true

pub sound_parts : (width bools vertices : ℕ) (marks words : List ℕ) →
    refusal_of_parts width bools vertices marks words ≡ None → AreSound width bools vertices marks words
sound_parts width bools vertices marks words accepted =
    let a = passed _ Bits _ accepted in
    let b = passed _ Padding _ a.1 in
    let c = passed _ Length _ b.1 in
    let d = passed _ NotBool _ c.1 in
    record { one = a.0; behind = b.0; count = eqb-true _ _ (not-false _ c.0); typed = not-false _ d.0 }

pub accepted_parts : (width bools vertices : ℕ) (marks words : List ℕ) → AreSound width bools vertices marks words →
    refusal_of_parts width bools vertices marks words ≡ None
accepted_parts width bools vertices marks words sound =
    cond-false _ _ _ sound.one
    ∙ cond-false _ _ _ sound.behind
    ∙ cond-false _ _ _ (not_from_true _ (eq-eqb _ _ sound.count))
    ∙ cond-false _ _ _ (not_from_true _ sound.typed)

-- the two parts of a body that spells states
record HasParts (vertices : ℕ) (body : List ℕ) (states : List State) : Type 0 where
  enough : mark_len vertices ≤ length body
  marks : take (mark_len vertices) body ≡ mark_bytes (map mark_of states)
  words : drop (mark_len vertices) body ≡ flat_map sent_bytes states

parts_of : (width vertices bools : ℕ) (body : List ℕ) (states : List State) → Spells width vertices bools body states
    → HasParts vertices body states
parts_of width vertices bools body states spells =
    let front = mark_bytes (map mark_of states) in
    let behind = flat_map sent_bytes states in
    let count : length (mark_bytes (map mark_of states)) ≡ mark_len vertices =
    (pairs-mark_bytes (map mark_of states)).count ∙ ap mark_len (length-map states mark_of ∙ spells.count) in
    record {
      enough = omega (arith, sym (ap length spells.spells), length-append front behind, count);
      marks = ap (λ b. take (mark_len vertices) b) (sym spells.spells) ∙ take_at front behind (mark_len vertices) count;
      words = ap (λ b. drop (mark_len vertices) b) (sym spells.spells) ∙ drop_at front behind (mark_len vertices) count;
    }

-- the pairs of a body that spells states
pairs_are : (vertices : ℕ) (body : List ℕ) (states : List State) → length states ≡ vertices →
    HasParts vertices body states →
    take vertices (pairs_in (take (mark_len vertices) body)) ≡ pairs_from states
pairs_are vertices body states count parts =
    ap (λ marks. take vertices (pairs_in marks)) parts.marks
    ∙ ap (λ n. take n (pairs_in (mark_bytes (map mark_of states)))) (sym (length-map states mark_of ∙ count))
    ∙ (pairs-mark_bytes (map mark_of states)).front

none_behind : (vertices : ℕ) (body : List ℕ) (states : List State) → length states ≡ vertices →
    HasParts vertices body states →
    list_any is_set (drop vertices (pairs_in (take (mark_len vertices) body))) ≡ false
none_behind vertices body states count parts =
    ap (λ marks. list_any is_set (drop vertices (pairs_in marks))) parts.marks
    ∙ ap (λ n. list_any is_set (drop n (pairs_in (mark_bytes (map mark_of states)))))
    (sym (length-map states mark_of ∙ count))
    ∙ (pairs-mark_bytes (map mark_of states)).behind

-- a body that spells states is read as these
pub read_again : (width vertices bools : ℕ) (body : List ℕ) (states : List State) →
    Spells width vertices bools body states → read_of width vertices body ≡ states
read_again width vertices bools body states spells =
    let parts = parts_of width vertices bools body states spells in
    ap (λ pairs. states_in width pairs (drop (mark_len vertices) body))
    (pairs_are vertices body states spells.count parts)
    ∙ ap (λ words. states_in width (pairs_from states) words) parts.words
    ∙ states_again width bools states spells.each

pub spelled_law : SpelledIsAccepted
spelled_law width vertices bools body states spells =
    let parts = parts_of width vertices bools body states spells in
    let pairs = pairs_are vertices body states spells.count parts in
    let sound : AreSound width bools vertices (take (mark_len vertices) body) (drop (mark_len vertices) body) = record {
      one = ap (λ ps. list_any is_both ps) pairs ∙ none_both (map mark_of states);
      behind = none_behind vertices body states spells.count parts;
      count = ap length parts.words ∙ length-sent width bools states spells.each
          ∙ ap (λ ps. 8 * width * started ps) (sym pairs);
      typed = ap (λ ps. list_all (are_typed bools) (rows_in width (started ps) (drop (mark_len vertices) body))) pairs
          ∙ ap (λ words. list_all (are_typed bools) (rows_in width (started (pairs_from states)) words)) parts.words
          ∙ typed-sent width bools states spells.each;
    } in
    cond-false _ _ _ (le-ltb _ _ parts.enough) ∙ accepted_parts width bools vertices _ _ sound

pub once_law : SpelledOnce
once_law width vertices bools body a b one other = sym (read_again width vertices bools body a one)
    ∙ read_again width vertices bools body b other

pub back_law : ReadsBack
back_law width bools states each =
    let spells : Spells width (length states) bools (spelled states) states =
    record { count = refl; each = each; spells = refl } in (
      spelled_law width (length states) bools (spelled states) states spells,
      λ others same. once_law width (length states) bools (spelled states) others states same spells,
    )

-- bytes, place by place
pub below_from_All : (bytes : List ℕ) → AreBytes bytes → AreBelow bytes
below_from_All bytes fits i =
    let P : ℕ → Type 0 = λ x. x < 256 in
    elim (cases_lt i (length bytes)) [
      | inl inside ↦ All-get_or P bytes i 0 inside fits
      | inr past ↦ subst P (sym (get_or_past bytes i 0 past)) (omega arith)
    ]

-- a body that isn't refused spells what it is read as
pub accepted_spells : (width vertices bools : ℕ) (body : List ℕ) → AreBytes body →
    refusal_of width vertices bools body ≡ None → Spells width vertices bools body (read_of width vertices body)
accepted_spells width vertices bools body fits accepted =
    let marks = take (mark_len vertices) body in
    let words = drop (mark_len vertices) body in
    let first = passed _ Length _ accepted in
    let enough : mark_len vertices ≤ length body = ltb-false _ _ first.0 in
    let sound = sound_parts width bools vertices (take (mark_len vertices) body) (drop (mark_len vertices) body)
    first.1 in
    let pairs = take vertices (pairs_in (take (mark_len vertices) body)) in
    let mark_count : length (take (mark_len vertices) body) ≡ mark_len vertices =
    length-take-le (mark_len vertices) body enough in
    let pair_count : length (take vertices (pairs_in (take (mark_len vertices) body))) ≡ vertices =
    length-take-le vertices (pairs_in (take (mark_len vertices) body))
    (omega (arith, length-pairs (take (mark_len vertices) body), mark_count)) in
    let room : 8 * width * started (take vertices (pairs_in (take (mark_len vertices) body)))
    ≤ length (drop (mark_len vertices) body) = omega (arith, sound.count) in
    let words_back : flat_map sent_bytes (states_in width pairs words) ≡ words =
    sym (append-nil (flat_map sent_bytes (states_in width pairs words)))
    ∙ ap (λ end. flat_map sent_bytes (states_in width pairs words) ++ end)
    (sym (drop_all (8 * width * started pairs) words (omega (arith, sound.count))))
    ∙ bytes-states_in width pairs words room (drop_below (mark_len vertices) body (below_from_All body fits)) in
    let marks_back : mark_bytes (map mark_of (states_in width pairs words)) ≡ marks =
    ap mark_bytes (marks-states_in width pairs words)
    ∙ mark_bytes-pairs vertices marks (All-take (λ b. b < 256) (mark_len vertices) body fits) mark_count sound.one
    sound.behind in
    record {
      count = length-states_in width pairs words ∙ pair_count;
      each = states-states_in width bools pairs words sound.typed;
      spells = ap (λ front. front ++ flat_map sent_bytes (states_in width pairs words)) marks_back
          ∙ ap (λ end. marks ++ end) words_back
          ∙ take-append-drop (mark_len vertices) body;
    }

pub accepted_law : AcceptedIsSpelled
accepted_law width vertices bools body fits accepted = (
  read_of width vertices body,
  accepted_spells width vertices bools body fits accepted,
)

-- what holds of a result holds of one that follows from it
pub ok_more : {T E : Type 0} (r : Result T E) (P Q : T → Type 0) → ((x : T) → P x → Q x) → IfOk r P → IfOk r Q
ok_more (Ok x) P Q follows h = follows x h
ok_more (Err e) P Q follows h = tt
