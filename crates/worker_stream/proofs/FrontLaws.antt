-- What is read step by step is the front of the bytes.
use Rattle.std.proofs.Common.{◌≡◌, ℕ, ◌+◌, ◌-◌, ◌<◌, ◌≤◌, ◌∙◌, min, true, false, Option, Some, Err, List, [], ◌∷◌, ◌++◌, length, take, drop, refl, sym, ap, subst, arith, append_assoc, length-append}
use Rattle.std.proofs.lemmas.Bool.{cond-false, cond-true, eq-eqb, le-ltb, ne_eqb}
use Rattle.std.proofs.lemmas.Bool.Decides.{nat_tests}
use Rattle.std.proofs.lemmas.Bool.{cases_lt}
use Rattle.std.proofs.Common.{⊎_elim}
use Rattle.std.specs.Prelude.{nat_lt}
use Rattle.vert_base.specs.declared.message.Name.{Name}
use Rattle.outside.specs.Bytes.{led_by}
use Rattle.body_shape.specs.declared.shape.BodyShape.{BodyShape}
use Rattle.body_shape.specs.Fit.{is_fit}
use Rattle.dep_message.specs.Messages.{header_in}
use Rattle.worker_stream.specs.declared.reading.ReadFault.{ReadFault}
use Rattle.worker_stream.specs.declared.reading.ReadFault.TheVariants.{Ended, Faulty, Source, Want}
use Rattle.worker_stream.specs.Fronts.{IsRead, IsWhole, IsWrong, NoByte, ReadsBody, ReadsHeader, ReadsMessage, There, Wrong, front_of, front_with_body, front_with_name, read_of, read_with_name}
use Rattle.worker_stream.proofs.FillLaws.{led_twice}

pub taken : (xs ys : List ℕ) → take (length xs) (xs ++ ys) ≡ xs
taken [] ys = refl
taken (x ∷ xs) ys = ap (λ zs. x ∷ zs) (taken xs ys)

pub dropped : (xs ys : List ℕ) → drop (length xs) (xs ++ ys) ≡ ys
dropped [] ys = refl
dropped (x ∷ xs) ys = dropped xs ys

pub taken_at : (n : ℕ) (xs ys : List ℕ) → length xs ≡ n → take n (xs ++ ys) ≡ xs
taken_at n xs ys e = ap (λ q. take q (xs ++ ys)) (sym e) ∙ taken xs ys

pub dropped_at : (n : ℕ) (xs ys : List ℕ) → length xs ≡ n → drop n (xs ++ ys) ≡ ys
dropped_at n xs ys e = ap (λ q. drop q (xs ++ ys)) (sym e) ∙ dropped xs ys

less_is : (a b : ℕ) → a < b → nat_lt a b ≡ true
less_is a b lt = grind (arith, nat_tests)

pub led_on : (first second : List ℕ) (old mid new : Option (List ℕ)) → old ≡ led_by first mid →
    mid ≡ led_by second new → old ≡ led_by (first ++ second) new
led_on first second old mid new a b = a ∙ (ap (led_by first) b ∙ led_twice first second new)

-- ---- headers
pub no_byte : (forms : Name → Option BodyShape) (front rest : List ℕ) → length front ≡ 0 → rest ≡ [] →
    front_of forms (front ++ rest) ≡ NoByte
no_byte forms front rest none end =
    let len = length-append front rest in
    let empty : length rest ≡ 0 = ap length end in
    cond-true _ _ _ (eq-eqb (length (front ++ rest)) 0 (omega (arith, len, empty, none)))

pub short_header : (forms : Name → Option BodyShape) (front rest : List ℕ) → 0 < length front → length front < 13 →
    rest ≡ [] → IsWrong forms front rest 1
short_header forms front rest some few end =
    let len = length-append front rest in
    let empty : length rest ≡ 0 = ap length end in
    let less = less_is (length (front ++ rest)) 13 (omega (arith, len, empty, few)) in
    record {
      wrong = cond-false _ _ _ (ne_eqb (length (front ++ rest)) 0 (λ e. omega (arith, len, empty, some)))
          ∙ cond-true _ _ _ less;
      size = cond-true _ _ _ less ∙ omega (arith, len, empty);
    }

-- a part of a header is not more than what is read
pub part_of_header : (forms : Name → Option BodyShape) (front rest : List ℕ) → length front ≤ 13 →
    length front ≤ read_of forms (front ++ rest)
part_of_header forms front rest few =
    let len = length-append front rest in
    let bytes = front ++ rest in
    let h = header_in (take 13 bytes) in
    let more = read_with_name forms h.name h.size (length bytes - 13) in
    ⊎_elim
    (λ (less : length bytes < 13).
    subst (λ (n : ℕ). length front ≤ n) (sym (cond-true (nat_lt (length bytes) 13) (length bytes) (13 + more)
    (less_is (length bytes) 13 less))) (omega (arith, len)))
    (λ (enough : 13 ≤ length bytes).
    subst (λ (n : ℕ). length front ≤ n) (sym (cond-false (nat_lt (length bytes) 13) (length bytes) (13 + more)
    (le-ltb _ _ enough))) (omega (arith, few)))
    (cases_lt (length bytes) 13)

pub header_fails : (forms : Name → Option BodyShape) (front rest : List ℕ) (fault : ReadFault) →
    ReadsHeader front rest (Err fault) → ReadsMessage forms front rest (Err fault)
header_fails forms front rest Ended given = (no_byte forms front rest given.0 given.1, given.0)
header_fails forms front rest (Faulty code) given =
    subst (λ (n : ℕ). IsWrong forms front rest n) (sym given.0) (short_header forms front rest given.1 given.2 given.3)
header_fails forms front rest Source given = part_of_header forms front rest given
header_fails forms front rest Want given = absurd given

module _ (forms : Name → Option BodyShape) (head : List ℕ) (long : length head ≡ 13) where
  enough : (behind : List ℕ) → 13 ≤ length (head ++ behind)
  enough behind = omega (arith, length-append head behind, long)

  pub headed : (behind : List ℕ) → front_of forms (head ++ behind)
      ≡ front_with_name forms (header_in head).name (header_in head).size behind
  headed behind =
      cond-false _ _ _ (ne_eqb (length (head ++ behind)) 0 (λ e. omega (arith, enough behind)))
      ∙ (cond-false _ _ _ (le-ltb _ _ (enough behind))
      ∙ (ap (λ h. front_with_name forms (header_in h).name (header_in h).size (drop 13 (head ++ behind)))
      (taken_at 13 head behind long)
      ∙ ap (λ bs. front_with_name forms (header_in head).name (header_in head).size bs)
      (dropped_at 13 head behind long)))

  pub read_headed : (behind : List ℕ) → read_of forms (head ++ behind)
      ≡ 13 + read_with_name forms (header_in head).name (header_in head).size (length behind)
  read_headed behind =
      let len : length (head ++ behind) - 13 ≡ length behind = omega (arith, length-append head behind, long) in
      cond-false _ _ _ (le-ltb _ _ (enough behind))
      ∙ (ap (λ h. 13 + read_with_name forms (header_in h).name (header_in h).size (length (head ++ behind) - 13))
      (taken_at 13 head behind long)
      ∙ ap (λ n. 13 + read_with_name forms (header_in head).name (header_in head).size n) len)

  -- the header shows the fault
  pub wrong_header : (name : Option Name) (size code : ℕ) (rest : List ℕ) → (header_in head).name ≡ name →
      (header_in head).size ≡ size → front_with_name forms name size rest ≡ Wrong code →
      read_with_name forms name size (length rest) ≡ 0 → IsWrong forms head rest code
  wrong_header name size code rest name_is size_is wrong none = record {
    wrong = headed rest
        ∙ (ap (λ n. front_with_name forms n (header_in head).size rest) name_is
        ∙ (ap (λ n. front_with_name forms name n rest) size_is ∙ wrong));
    size = read_headed rest
        ∙ (ap (λ n. 13 + read_with_name forms n (header_in head).size (length rest)) name_is
        ∙ (ap (λ n. 13 + read_with_name forms name n (length rest)) size_is
        ∙ (ap (λ n. 13 + n) none ∙ omega (arith, long))));
  }

  module _ (x : Name) (shape : BodyShape) (size : ℕ) (name_is : (header_in head).name ≡ Some x)
      (size_is : (header_in head).size ≡ size)
      (judged : (bytes : List ℕ) → front_with_name forms (Some x) size bytes ≡ front_with_body x shape size bytes)
      (reads : (left : ℕ) → read_with_name forms (Some x) size left ≡ min size left) where
    body_judged : (behind : List ℕ) → front_of forms (head ++ behind) ≡ front_with_body x shape size behind
    body_judged behind =
        headed behind
        ∙ (ap (λ n. front_with_name forms n (header_in head).size behind) name_is
        ∙ (ap (λ n. front_with_name forms (Some x) n behind) size_is ∙ judged behind))

    body_reads : (behind : List ℕ) → read_of forms (head ++ behind) ≡ 13 + min size (length behind)
    body_reads behind =
        read_headed behind
        ∙ (ap (λ n. 13 + read_with_name forms n (header_in head).size (length behind)) name_is
        ∙ (ap (λ n. 13 + read_with_name forms (Some x) n (length behind)) size_is
        ∙ ap (λ n. 13 + n) (reads (length behind))))

    again : (body behind : List ℕ) → (head ++ body) ++ behind ≡ head ++ (body ++ behind)
    again body behind = append_assoc head body behind

    read_size : (body behind : List ℕ) → read_of forms ((head ++ body) ++ behind)
        ≡ 13 + min size (length (body ++ behind))
    read_size body behind = ap (read_of forms) (again body behind) ∙ body_reads (body ++ behind)

    -- a part of the body is not more than what is read
    pub part_of_body : (body rest : List ℕ) → length body ≤ size →
        length (head ++ body) ≤ read_of forms ((head ++ body) ++ rest)
    part_of_body body rest few =
        omega (arith, read_size body rest, length-append head body, length-append body rest, few, long)

    pub early_body : (body rest : List ℕ) → length body < size → rest ≡ [] → IsWrong forms (head ++ body) rest 1
    early_body body rest few end =
        let len = length-append body rest in
        let empty : length rest ≡ 0 = ap length end in
        record {
          wrong = ap (front_of forms) (again body rest)
              ∙ (body_judged (body ++ rest)
              ∙ cond-true _ _ _ (less_is (length (body ++ rest)) size (omega (arith, len, empty, few))));
          size = omega (arith, read_size body rest, len, empty, few, length-append head body, long);
        }

    whole : (body behind : List ℕ) → length body ≡ size → nat_lt (length (body ++ behind)) size ≡ false
    whole body behind len = le-ltb _ _ (omega (arith, length-append body behind, len))

    whole_size : (body behind : List ℕ) → length body ≡ size → read_of forms ((head ++ body) ++ behind)
        ≡ length (head ++ body)
    whole_size body behind len =
        omega (arith, read_size body behind, length-append head body, length-append body behind, len, long)

    fit_front : (body behind : List ℕ) → length body ≡ size → is_fit shape (take size (body ++ behind))
        ≡ is_fit shape body
    fit_front body behind len = ap (is_fit shape) (taken_at size body behind len)

    pub body_unfit : (body rest : List ℕ) → length body ≡ size → is_fit shape body ≡ false →
        IsWrong forms (head ++ body) rest 4
    body_unfit body rest len unfit = record {
      wrong = ap (front_of forms) (again body rest)
          ∙ (body_judged (body ++ rest)
          ∙ (cond-false _ _ _ (whole body rest len)
          ∙ cond-false _ _ _ (fit_front body rest len ∙ unfit)));
      size = whole_size body rest len;
    }

    pub body_fits : (body : List ℕ) → length body ≡ size → is_fit shape body ≡ true → (behind : List ℕ) →
        IsRead forms (head ++ body) (record { name = x; body = body }) behind
    body_fits body len fits behind = record {
      there = ap (front_of forms) (again body behind)
          ∙ (body_judged (body ++ behind)
          ∙ (cond-false _ _ _ (whole body behind len)
          ∙ (cond-true _ _ _ (fit_front body behind len ∙ fits)
          ∙ (ap (λ (q : List ℕ). There (record { name = x; body = q }) (drop size (body ++ behind)))
          (taken_at size body behind len)
          ∙ ap (λ (q : List ℕ). There (record { name = x; body = body }) q) (dropped_at size body behind len)))));
      size = whole_size body behind len;
    }

    -- the message that has these bytes
    pub message_fits : (body items : List ℕ) → length body ≡ size → size < 4294967296 → items ≡ body →
        is_fit shape items ≡ true → IsWhole forms (head ++ body) (record { name = x; body = items })
    message_fits body items len small same fits =
        subst (λ (bs : List ℕ). IsWhole forms (head ++ body) (record { name = x; body = bs })) (sym same)
        (record {
          long = omega (arith, length-append head body, long);
          small = omega arith;
          read = body_fits body len (ap (is_fit shape) (sym same) ∙ fits);
        })

    -- the body ends early, or a call of the outside failed
    pub body_fails : (body rest : List ℕ) (fault : ReadFault) → ReadsBody size body rest (Err fault) →
        ReadsMessage forms (head ++ body) rest (Err fault)
    body_fails body rest Ended given = absurd given
    body_fails body rest (Faulty code) given =
        subst (λ (n : ℕ). IsWrong forms (head ++ body) rest n) (sym given.0) (early_body body rest given.1 given.2)
    body_fails body rest Source given = part_of_body body rest given
    body_fails body rest Want given = let none : length body ≡ 0 = given in part_of_body body rest (omega arith)
