-- What is gained part by part.
use Rattle.std.proofs.Common.{◌≡◌, ℕ, ◌+◌, ◌-◌, List, [], ◌++◌, take, drop, length, Option, Some, None, refl, sym, ap, ◌∙◌, append_assoc, append-nil, length-append, arith}
use Rattle.std.proofs.Math.Seq.{take-add, take-append-add}
use Rattle.std.proofs.lemmas.List.{take_rest, take-append-le}
use Rattle.outside.specs.Bytes.{gained, GainedPart}

-- nothing more
pub gained-nothing : (held : Option (List ℕ)) → gained held [] ≡ held
gained-nothing None = refl
gained-nothing (Some bytes) = ap Some (append-nil bytes)

-- one text after another
pub gained-gained : (held : Option (List ℕ)) (first second : List ℕ) →
    gained (gained held first) second ≡ gained held (first ++ second)
gained-gained None first second = refl
gained-gained (Some bytes) first second = ap Some (append_assoc bytes first second)

-- the first n, then the first m of the slice from n on
pub gained_more : (held : Option (List ℕ)) (text : List ℕ) (n m : ℕ) (mid new : Option (List ℕ)) →
    mid ≡ gained held (take n text) → new ≡ gained mid (take m (take (length text - n) (drop n text))) →
    new ≡ gained held (take (n + m) text)
gained_more held text n m mid new before now =
    let rest : new ≡ gained mid (take m (drop n text)) =
    now ∙ ap (λ (xs : List ℕ). gained mid (take m xs)) (take_rest text n) in
    rest ∙ ap (λ (h : Option (List ℕ)). gained h (take m (drop n text))) before
    ∙ gained-gained held (take n text) (take m (drop n text)) ∙ ap (gained held) (sym (take-add n m text))

-- nothing was gained of any text
pub no_part : (held : Option (List ℕ)) (text : List ℕ) → GainedPart held held text
no_part held text = record { size = 0; within = omega arith; new_is = sym (gained-nothing held) }

-- a part of a text is a part of a longer one
pub part_of_longer : (old new : Option (List ℕ)) (first second : List ℕ) → GainedPart old new first →
    GainedPart old new (first ++ second)
part_of_longer old new first second part =
    record {
      size = part.size;
      within = omega (arith, length-append first second, part.within);
      new_is = part.new_is ∙ ap (gained old) (sym (take-append-le part.size first second part.within));
    }

-- a whole text, then a part of the next
pub part_after : (old mid new : Option (List ℕ)) (first second : List ℕ) → mid ≡ gained old first →
    GainedPart mid new second → GainedPart old new (first ++ second)
part_after old mid new first second whole part =
    let step : new ≡ gained (gained old first) (take part.size second) =
    part.new_is ∙ ap (λ (h : Option (List ℕ)). gained h (take part.size second)) whole in
    record {
      size = length first + part.size;
      within = omega (arith, length-append first second, part.within);
      new_is = step ∙ gained-gained old first (take part.size second)
          ∙ ap (gained old) (sym (take-append-add first second part.size));
    }
