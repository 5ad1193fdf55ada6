-- The order of machines goes round the ring.
use Rattle.std.proofs.Common.{◌≡◌, ◌≢◌, ℕ, ◌+◌, ◌-◌, ◌*◌, ◌<◌, ◌≤◌, ◌%◌, refl, ap, sym, ◌∙◌, arith, ⊎_elim}
use Rattle.std.proofs.lemmas.Bool.{cases_lt, cases_eq}
use Rattle.std.proofs.lemmas.Nat.{mod-mul-add}
use Rattle.std.proofs.Math.Nat.{mod-lt}
use Rattle.circulant_plan.specs.Ring.{order_of, chunk_of, after_machine, before_machine}
use Rattle.circulant_plan.specs.Laws.{EachRingTurns}

-- a number below twice p, modulo p
pub mod_low : (x p : ℕ) → x < p → x % p ≡ x
mod_low x p lt =
    let e : x ≡ 0 * p + x = omega arith in
    ap (λ q. q % p) e ∙ mod-mul-add 0 p x lt

pub mod_high : (x p i : ℕ) → x ≡ p + i → i < p → x % p ≡ i
mod_high x p i e lt =
    let e' : x ≡ 1 * p + i = omega arith in
    ap (λ q. q % p) e' ∙ mod-mul-add 1 p i lt

-- what the machine of a step is
pub order_low : (d s p : ℕ) → d + 1 + s < p → order_of d s p ≡ d + 1 + s
order_low d s p lt = mod_low (d + 1 + s) p lt

pub order_high : (d s p : ℕ) → p ≤ d + 1 + s → d < p → s < p → order_of d s p ≡ d + 1 + s - p
order_high d s p le a b = mod_high (d + 1 + s) p (d + 1 + s - p) (omega arith) (omega arith)

pub chunk_low : (m s p : ℕ) → m ≤ s → m < p → s < p → chunk_of m s p ≡ m + p - 1 - s
chunk_low m s p le a b = mod_low (m + p - 1 - s) p (omega arith)

pub chunk_high : (m s p : ℕ) → s < m → m < p → s < p → chunk_of m s p ≡ m - 1 - s
chunk_high m s p gt a b = mod_high (m + p - 1 - s) p (m - 1 - s) (omega arith) (omega arith)

pub chunk_of_order : (p d s : ℕ) → d < p → s < p → chunk_of (order_of d s p) s p ≡ d
chunk_of_order p d s a b =
    ⊎_elim
    (λ (low : d + 1 + s < p).
    ap (λ m. chunk_of m s p) (order_low d s p low) ∙ (chunk_high (d + 1 + s) s p (omega arith) low b ∙ omega arith))
    (λ (high : p ≤ d + 1 + s).
    ap (λ m. chunk_of m s p) (order_high d s p high a b)
    ∙ (chunk_low (d + 1 + s - p) s p (omega arith) (omega arith) b ∙ omega arith))
    (cases_lt (d + 1 + s) p)

pub order_of_chunk : (p m s : ℕ) → m < p → s < p → order_of (chunk_of m s p) s p ≡ m
order_of_chunk p m s a b =
    ⊎_elim
    (λ (gt : s < m).
    ap (λ d. order_of d s p) (chunk_high m s p gt a b) ∙ (order_low (m - 1 - s) s p (omega arith) ∙ omega arith))
    (λ (le : m ≤ s).
    ap (λ d. order_of d s p) (chunk_low m s p le a b)
    ∙ (order_high (m + p - 1 - s) s p (omega arith) (omega arith) b ∙ omega arith))
    (cases_lt s m)

pub owner_last : (p d : ℕ) → d < p → order_of d (p - 1) p ≡ d
owner_last p d a = order_high d (p - 1) p (omega arith) a (omega arith) ∙ omega arith

after_is : (p d s : ℕ) → d < p → s + 1 < p → after_machine (order_of d s p) p ≡ order_of d (s + 1) p
after_is p d s a b =
    ⊎_elim
    (λ (low : d + 1 + s < p).
    let one : d + 1 + s + 1 ≡ d + 1 + (s + 1) = omega arith in
    ap (λ m. after_machine m p) (order_low d s p low) ∙ ap (λ x. x % p) one)
    (λ (high : p ≤ d + 1 + s).
    ap (λ m. after_machine m p) (order_high d s p high a (omega arith))
    ∙ (mod_low (d + 1 + s - p + 1) p (omega arith)
    ∙ sym (order_high d (s + 1) p (omega arith) a b ∙ omega arith)))
    (cases_lt (d + 1 + s) p)

before_low : (m p : ℕ) → m < p → m ≡ 0 → before_machine m p ≡ p - 1
before_low m p lt zero_at = mod_low (m + p - 1) p (omega arith) ∙ omega arith

before_high : (m p : ℕ) → m < p → 1 ≤ m → before_machine m p ≡ m - 1
before_high m p lt some = mod_high (m + p - 1) p (m - 1) (omega arith) (omega arith)

before_is : (p d s : ℕ) → d < p → s + 1 < p → before_machine (order_of d (s + 1) p) p ≡ order_of d s p
before_is p d s a b =
    ⊎_elim
    (λ (low : d + 1 + (s + 1) < p).
    ap (λ m. before_machine m p) (order_low d (s + 1) p low)
    ∙ (before_high (d + 1 + (s + 1)) p low (omega arith)
    ∙ sym (order_low d s p (omega arith) ∙ omega arith)))
    (λ (high : p ≤ d + 1 + (s + 1)).
    ap (λ m. before_machine m p) (order_high d (s + 1) p high a b)
    ∙ ⊎_elim
    (λ (edge : d + 1 + s < p).
    before_low (d + 1 + (s + 1) - p) p (omega arith) (omega arith) ∙ sym (order_low d s p edge ∙ omega arith))
    (λ (more : p ≤ d + 1 + s).
    before_high (d + 1 + (s + 1) - p) p (omega arith) (omega arith)
    ∙ sym (order_high d s p more a (omega arith) ∙ omega arith))
    (cases_lt (d + 1 + s) p))
    (cases_lt (d + 1 + (s + 1)) p)

-- two steps with one machine are one
pub order_once : (p d s t : ℕ) → d < p → s < p → t < p → order_of d s p ≡ order_of d t p → s ≡ t
order_once p d s t a b c same =
    ⊎_elim
    (λ (low : d + 1 + s < p).
    let x = order_low d s p low in
    ⊎_elim
    (λ (low' : d + 1 + t < p). let y = order_low d t p low' in omega arith)
    (λ (high' : p ≤ d + 1 + t). let y = order_high d t p high' a c in omega arith)
    (cases_lt (d + 1 + t) p))
    (λ (high : p ≤ d + 1 + s).
    let x = order_high d s p high a b in
    ⊎_elim
    (λ (low' : d + 1 + t < p). let y = order_low d t p low' in omega arith)
    (λ (high' : p ≤ d + 1 + t). let y = order_high d t p high' a c in omega arith)
    (cases_lt (d + 1 + t) p))
    (cases_lt (d + 1 + s) p)

pub each_ring_turns : EachRingTurns
each_ring_turns p some = record {
  within = λ d s. mod-lt (d + 1 + s) (omega arith);
  chunk = λ d s. chunk_of_order p d s;
  machine = λ m s. order_of_chunk p m s;
  owner = λ d. owner_last p d;
  after = λ d s. after_is p d s;
  before = λ d s. before_is p d s;
}

pub before_after : (m p : ℕ) → m < p → before_machine (after_machine m p) p ≡ m
before_after m p lt =
    ⊎_elim
    (λ (low : m + 1 < p). ap (λ q. before_machine q p) (mod_low (m + 1) p low)
    ∙ (before_high (m + 1) p low (omega arith) ∙ omega arith))
    (λ (high : p ≤ m + 1).
    ap (λ q. before_machine q p) (mod_high (m + 1) p 0 (omega arith) (omega arith))
    ∙ (before_low 0 p (omega arith) refl ∙ omega arith))
    (cases_lt (m + 1) p)

pub after_before : (m p : ℕ) → m < p → after_machine (before_machine m p) p ≡ m
after_before m p lt =
    ⊎_elim
    (λ (first : m ≡ 0). ap (λ q. after_machine q p) (before_low m p lt first)
    ∙ (mod_high (p - 1 + 1) p 0 (omega arith) (omega arith) ∙ omega arith))
    (λ (other : m ≢ 0).
    ap (λ q. after_machine q p) (before_high m p lt (omega arith))
    ∙ (mod_low (m - 1 + 1) p (omega arith) ∙ omega arith))
    (cases_eq m 0)

-- of two machines or more none is next to itself
pub after_other : (m p : ℕ) → m < p → 2 ≤ p → after_machine m p ≢ m
after_other m p lt two =
    ⊎_elim
    (λ (low : m + 1 < p). let e = mod_low (m + 1) p low in λ same. omega arith)
    (λ (high : p ≤ m + 1). let e = mod_high (m + 1) p 0 (omega arith) (omega arith) in λ same. omega arith)
    (cases_lt (m + 1) p)

pub before_other : (m p : ℕ) → m < p → 2 ≤ p → before_machine m p ≢ m
before_other m p lt two =
    ⊎_elim
    (λ (first : m ≡ 0). let e = before_low m p lt first in λ same. omega arith)
    (λ (other : m ≢ 0). let e = before_high m p lt (omega arith) in λ same. omega arith)
    (cases_eq m 0)

-- a machine works on its own chunk in the last step alone
pub chunk_other : (m s p : ℕ) → m < p → s < p - 1 → chunk_of m s p ≢ m
chunk_other m s p lt early =
    ⊎_elim
    (λ (gt : s < m). let e = chunk_high m s p gt lt (omega arith) in λ same. omega arith)
    (λ (le : m ≤ s). let e = chunk_low m s p le lt (omega arith) in λ same. omega arith)
    (cases_lt s m)

pub order_other : (d s p : ℕ) → d < p → s < p - 1 → order_of d s p ≢ d
order_other d s p lt early =
    ⊎_elim
    (λ (low : d + 1 + s < p). let e = order_low d s p low in λ same. omega arith)
    (λ (high : p ≤ d + 1 + s). let e = order_high d s p high lt (omega arith) in λ same. omega arith)
    (cases_lt (d + 1 + s) p)

-- the step in which machine m works on chunk d is found as its chunk of a step is
pub step_of_chunk : (m d p : ℕ) → m < p → d < p → chunk_of m (chunk_of m d p) p ≡ d
step_of_chunk m d p a b =
    ⊎_elim
    (λ (gt : d < m). ap (λ s. chunk_of m s p) (chunk_high m d p gt a b)
    ∙ (chunk_high m (m - 1 - d) p (omega arith) a (omega arith) ∙ omega arith))
    (λ (le : m ≤ d). ap (λ s. chunk_of m s p) (chunk_low m d p le a b)
    ∙ (chunk_low m (m + p - 1 - d) p (omega arith) a (omega arith) ∙ omega arith))
    (cases_lt d m)

pub step_early : (m d p : ℕ) → m < p → d < p → d ≢ m → chunk_of m d p < p - 1
step_early m d p a b differ =
    ⊎_elim
    (λ (gt : d < m). let e = chunk_high m d p gt a b in omega arith)
    (λ (le : m ≤ d). let e = chunk_low m d p le a b in omega arith)
    (cases_lt d m)
