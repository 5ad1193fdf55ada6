-- Where a loop that fills a buffer has come.
use Rattle.std.proofs.Common.{◌≡◌, ℕ, ◌+◌, ◌≤◌, ◌∙◌, Option, Some, None, List, ◌++◌, length, take, refl, sym, ap, arith, append_assoc}
use Rattle.std.proofs.Math.Seq.{take-append-add}
use Rattle.std.proofs.lemmas.List.{length-take, take-append-le}
use borrow.Rule.Slice.PartMut.{put_mid, post_of}
use Rattle.outside.specs.Bytes.{led_by}

pub led_twice : (first second : List ℕ) (left : Option (List ℕ)) →
    led_by first (led_by second left) ≡ led_by (first ++ second) left
led_twice first second None = refl
led_twice first second (Some rest) = ap Some (sym (append_assoc first second rest))

taken_more : (a m : ℕ) (xs ys post : List ℕ) → a ≤ length xs → m ≤ length ys →
    take (a + m) (take a xs ++ (ys ++ post)) ≡ take a xs ++ take m ys
taken_more a m xs ys post within few =
    let len = length-take a xs in
    let count : a ≡ length (take a xs) = omega (arith, len) in
    ap (λ q. take (q + m) (take a xs ++ (ys ++ post))) count
    ∙ (take-append-add (take a xs) (ys ++ post) m ∙ ap (λ q. take a xs ++ q) (take-append-le m ys post few))

-- the bytes before and those that were taken stand in front
module _ (a k m : ℕ) (xs ys : List ℕ) (before mid now : Option (List ℕ)) where
  pub filled_more : a ≤ length xs → m ≤ length ys → before ≡ led_by (take a xs) mid →
      mid ≡ led_by (take m ys) now → before ≡ led_by (take (a + m) (put_mid a k xs ys)) now
  filled_more within few first second =
      first
      ∙ (ap (led_by (take a xs)) second
      ∙ (led_twice (take a xs) (take m ys) now
      ∙ ap (λ q. led_by q now) (sym (taken_more a m xs ys (post_of a k xs) within few))))
