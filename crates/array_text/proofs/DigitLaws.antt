-- Bytes in hexadecimal, one part after another.
use Rattle.std.proofs.Common.{◌≡◌, ℕ, List, [], ◌∷◌, ◌++◌, ◌/◌, ◌%◌, Some, codes, length, slice_index, take, drop, refl, ap, sym, ◌∙◌, append_assoc}
use Rattle.std.proofs.lemmas.List.{take-append-drop}
use Rattle.hex.specs.Hex.{encode_lower, encode_with, lower_digits}
use Rattle.vert_base.specs.declared.message.Message.{Message}
use Rattle.vert_base.specs.HeaderBytes.{spelled_header, spelled_message}
use Rattle.vert_base.specs.Letters.{letter_of}
use Rattle.array_text.specs.Events.{message_text}

digits-append : (t xs ys : List ℕ) → encode_with t (xs ++ ys) ≡ encode_with t xs ++ encode_with t ys
unfolding encode_with
digits-append t [] ys = refl
digits-append t (x ∷ xs) ys =
    ap (λ (ds : List ℕ). slice_index t (x / 16) ∷ slice_index t (x % 16) ∷ ds) (digits-append t xs ys)

pub hex-append : (xs ys : List ℕ) → encode_lower (xs ++ ys) ≡ encode_lower xs ++ encode_lower ys
hex-append xs ys = digits-append lower_digits xs ys

pub hex-nothing : encode_lower [] ≡ []
unfolding encode_with
hex-nothing = refl

-- both parts of a text that was cut
pub parts : (piece behind rest : List ℕ) (n : ℕ) → piece ≡ take n rest → behind ≡ drop n rest → piece ++ behind ≡ rest
parts piece behind rest n front back =
    ap (λ (t : List ℕ). t ++ behind) front ∙ ap (λ (t : List ℕ). take n rest ++ t) back ∙ take-append-drop n rest

-- what is written, one piece more, and what is left
module _ (front piece behind rest bytes : List ℕ) (n : ℕ) where
  pub hex_more : piece ≡ take n rest → behind ≡ drop n rest → front ++ rest ≡ bytes →
      (encode_lower front ++ encode_lower piece) ++ encode_lower behind ≡ encode_lower bytes
  hex_more cut left whole =
      append_assoc (encode_lower front) (encode_lower piece) (encode_lower behind)
      ∙ ap (λ (t : List ℕ). encode_lower front ++ t) (sym (hex-append piece behind))
      ∙ sym (hex-append front (piece ++ behind))
      ∙ ap (λ (t : List ℕ). encode_lower (front ++ t)) (parts piece behind rest n cut left)
      ∙ ap encode_lower whole

-- the digits of the header and of the body
pub message_is : (header body : List ℕ) (m : Message) → header ≡ spelled_header m.name (length body) →
    body ≡ m.body.items → (codes " " ++ encode_lower header) ++ (encode_lower body ++ codes "\n")
    ≡ message_text (Some (letter_of m)) ++ codes "\n"
message_is header body m front is =
    let whole : List ℕ = spelled_message m.name m.body.items in
    let joined : encode_lower header ++ encode_lower body ≡ encode_lower whole =
    sym (hex-append header body) ∙ ap (λ (h : List ℕ). encode_lower (h ++ body)) front
    ∙ ap (λ (b : List ℕ). encode_lower (spelled_header m.name (length b) ++ b)) is in
    append_assoc (codes " ") (encode_lower header) (encode_lower body ++ codes "\n")
    ∙ ap (λ (t : List ℕ). codes " " ++ t) (sym (append_assoc (encode_lower header) (encode_lower body) (codes "\n")))
    ∙ ap (λ (t : List ℕ). codes " " ++ t ++ codes "\n") joined
