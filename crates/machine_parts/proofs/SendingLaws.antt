-- What vertices send, one after another.
use Rattle.std.proofs.Common.{◌≡◌, ℕ, zero, suc, ℤ, ◌+◌, ◌-◌, ◌/◌, ◌<◌, ◌≤◌, Bool, true, false, Option, Some, None, Result, Ok, Err, OnOk, List, [], ◌∷◌, ◌++◌, length, get_or, set, take, drop, map, replicate, refl, sym, ap, ◌∙◌, arith, length-append}
use Rattle.std.proofs.lemmas.List.{append_assoc, drop_at, length-map, length-replicate, length-take-le, map_more, set_at}
use Rattle.vert_base.specs.declared.graph.VertexId.{VertexId}
use Rattle.body_shape.specs.Fit.{bit_len}
use Rattle.body_shape.specs.Places.{places, there}
use Rattle.body_shape.specs.Push.{AddsSend, bit_bytes, push_body}
use Rattle.body_shape.specs.Refresh.{rows_bytes}
use Rattle.body_shape.proofs.FlagLaws.{length-bytes_with}
use Rattle.vert_base.specs.declared.value.Row.{Row}
use Rattle.vert_tree.specs.declared.program.Sparse.{Sparse}
use Rattle.vert_eval.specs.declared.environment.Env.{Env}
use Rattle.vert_eval.specs.Rounds.{row_at}
use Rattle.symple_face.specs.declared.degree.Degree.{Degree}
use Rattle.symple_face.specs.CoreSparse.{sends_at}
use Rattle.machine_parts.specs.Entering.{entered}
use Rattle.vert_eval.specs.SourceRun.{with_row}
use Rattle.machine_parts.specs.Neighbours.{ArePlaced}
use Rattle.machine_parts.specs.Sending.{TellsSends, own_sends}
use Rattle.machine_parts.proofs.TotalLaws.{own_here, settled, settled_here}

abbrev Sends : Type 0
Sends = Option (List ℤ)

-- what the first vertices of a list send, and nothing of the others
abbrev pub sends_upto : (VertexId → Option (List ℤ)) → ℕ → List VertexId → List (Option (List ℤ))
sends_upto f at list = map f (take at list) ++ replicate (length list - at) None

module _ (f : VertexId → Option (List ℤ)) (list : List VertexId) (at : ℕ) where
  front_count : at ≤ length list → length (map f (take at list)) ≡ at
  front_count le = length-map (take at list) f ∙ length-take-le at list le

  pub upto_count : at ≤ length list → length (sends_upto f at list) ≡ length list
  upto_count le =
      let none : List Sends = replicate (length list - at) None in
      omega (
        arith,
        length-append (map f (take at list)) none,
        front_count le,
        length-replicate {A = Sends} (length
            list - at) None,
      )

  none_there : (n : ℕ) → there {X = List ℤ} (replicate n None) ≡ []
  none_there zero = refl
  none_there (suc n) = none_there n

  pub upto_rest : at ≤ length list → there (drop at (sends_upto f at list)) ≡ []
  upto_rest le =
      ap there (drop_at (map f (take at list)) (replicate (length list - at) None) at (front_count le)) ∙
      none_there (length list - at)

  pub upto_more : (d : VertexId) → at < length list → set (sends_upto f at list) at (f (get_or list at d)) ≡
      sends_upto f (at + 1) list
  upto_more d lt =
      let front : List Sends = map f (take at list) in
      let rest : List Sends = replicate (length list - (at + 1)) None in
      let left : length list - at ≡ suc (length list - (at + 1)) = omega arith in
      ap (λ n. set (front ++ replicate n None) at (f (get_or list at d))) left
      ∙ set_at front None rest (f (get_or list at d)) at (front_count (omega arith))
      ∙ sym (append_assoc front (f (get_or list at d) ∷ []) rest)
      ∙ ap (λ sends. sends ++ rest) (sym (map_more f list at d lt))

-- a vertex has its bit among the bytes of a push
pub has_bit : (sends : List (Option (List ℤ))) (body : List ℕ) (at : ℕ) → body ≡ push_body sends → at < length
    sends → at / 8 < length body
has_bit sends body at is lt =
    let flags : List Bool = places sends in
    let size : length (bit_bytes flags) ≡ bit_len (length flags) = length-bytes_with (bit_len (length flags)) flags in
    omega (
      arith,
      ap length is,
      length-append (bit_bytes flags) (rows_bytes (there sends)),
      size,
      length-map sends
          (λ (s : Sends). is_there s),
    )
  where
    is_there : Sends → Bool
    is_there None = false
    is_there (Some words) = true

-- a vertex that doesn't send stays so
none_at : (sends : List (Option (List ℤ))) (at : ℕ) → at < length sends → there (drop at sends) ≡ [] → set sends at
    None ≡ sends
none_at [] at lt none = absurd (omega arith)
none_at (None ∷ sends) zero lt none = refl
none_at (Some words ∷ sends) zero lt none = cc
none_at (s ∷ sends) (suc at) lt none = ap (λ others. s ∷ others) (none_at sends at (omega arith) none)

pub tells_none : (body : List ℕ) (at : ℕ) (told : Option (List ℤ)) → told ≡ None → TellsSends body at told body
tells_none body at told none = λ sends is lt rest. is ∙ ap push_body (sym (ap (set sends at) none ∙ none_at sends
    at lt rest))

pub tells_words : (old new : List ℕ) (at : ℕ) (words : List ℤ) (told : Option (List ℤ)) → told ≡ Some words →
    AddsSend old at words new → TellsSends old at told new
tells_words old new at words told is adds = λ sends here lt rest. adds sends here lt rest ∙ ap (λ s. push_body (set
    sends at s)) (sym is)

pub on_ok_more : {T E : Type 0} (r : Result T E) (P Q : Type 0) → (P → Q) → OnOk r P → OnOk r Q
on_ok_more (Ok x) P Q more holds = more holds
on_ok_more (Err e) P Q more holds = tt

-- the next vertex has its bit
pub bit_within : (f : VertexId → Option (List ℤ)) (list : List VertexId) (at : ℕ) (body : List ℕ) → body ≡
    push_body (sends_upto f at list) →
    at < length list → at / 8 < length body
bit_within f list at body is lt = has_bit (sends_upto f at list) body at is (omega (
  arith,
  upto_count f list at
      (omega arith),
))

-- one vertex more
module _ (sparse : Sparse) (rows : List Row) (degrees : List Degree) (start at : ℕ) (list : List VertexId)
    (d : VertexId) (e : Degree) (first now read env : Env) (old new : List ℕ) where
  pub vertex_told : ArePlaced start (length rows) list → length degrees ≡ length rows → at < length list →
      settled now ≡ settled first → read ≡ with_row (row_at rows ((get_or list at d).0 - start)) now →
      env ≡ entered (get_or list at d).0 (get_or degrees ((get_or list at d).0 - start) e) 0 read →
      old ≡ push_body (sends_upto (λ v. own_sends sparse rows degrees start first (v.0 - start)) at list) →
      TellsSends old at (sends_at (Some sparse) env) new →
      (settled env ≡ settled first) × (new ≡ push_body (sends_upto (λ v. own_sends sparse rows degrees start
      first (v.0 - start)) (at + 1) list))
  vertex_told placed each lt same read_is entered_is so_far tells =
      let f : VertexId → Option (List ℤ) = λ v. own_sends sparse rows degrees start first (v.0 - start) in
      let place : ℕ = (get_or list at d).0 - start in
      let own = placed at d lt in
      let whole : (get_or list at d).0 ≡ start + ((get_or list at d).0 - start) = omega (arith, own.0) in
      let inside : (get_or list at d).0 - start < length degrees = omega (arith, own.1, each) in
      let here : env ≡ entered (start + ((get_or list at d).0 - start)) (get_or degrees ((get_or list at d).0 -
      start) e) 0 read =
      entered_is ∙ ap (λ v. entered v (get_or degrees place e) 0 read) whole in
      let sends : List Sends = sends_upto f at list in (
        settled_here rows degrees start place first now read env e same read_is here,
        tells sends so_far (omega (arith, upto_count f list at (omega arith))) (upto_rest f list at (omega arith))
            ∙ ap (λ s. push_body (set sends at s)) (ap (sends_at (Some sparse)) (own_here rows degrees start place
            first
            now read env e same read_is here inside))
            ∙ ap push_body (upto_more f list at d lt),
      )
