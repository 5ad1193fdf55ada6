-- What a load tells of the file under a name, and what it leaves of the shelf.
use Rattle.std.proofs.Common.{◌≡◌, ◌≢◌, ℕ, ◌+◌, ◌<◌, ◌≤◌, List, length, Option, Some, None, Result, Ok, Err, refl, sym, ap, subst, ◌∙◌, arith, replicate}
use Rattle.std.specs.Prelude.{IsSomeAnd, Vec, vec_len}
use Rattle.std.specs.Global.{Global}
use Rattle.std.proofs.lemmas.List.{length-replicate}
use Rattle.outside.specs.declared.shelf.LoadFault.{LoadFault}
use Rattle.outside.specs.declared.shelf.LoadFault.TheVariants.{Failed, Missing, TooLong, Want}
use Rattle.outside.specs.Causes.{Rose}
use Rattle.outside.specs.Files.{File, file_named}
use Rattle.command_steps.specs.Leaves.{CannotLoad, HasFailed, IsAbsent, IsLong, IsTold, IsUnder}
use Rattle.command_steps.specs.Notes.{Fault, NoLoad}
use Rattle.command_steps.specs.States.{Kept}

pub bytes_under :
    (files : Option (List File)) (name bytes : List ℕ) →
    ((told : List File) → files ≡ Some told → file_named name told ≡ Some bytes) → IsUnder files name (Some bytes)
bytes_under None name bytes is = tt
bytes_under (Some told) name bytes is = is told refl

-- a file that is longer than the limit
record LongUnder (files : Option (List File)) (name : List ℕ) (limit : ℕ) : Type 0 where
  pub bytes : List ℕ
  pub under : IsUnder files name (Some bytes)
  pub longer : limit < length bytes

long_told : (told : List File) (name : List ℕ) (limit : ℕ) (file : Option (List ℕ)) → file_named name told ≡ file →
    IsSomeAnd file (λ bytes. limit < length bytes) → LongUnder (Some told) name limit
long_told told name limit None is longer = absurd longer
long_told told name limit (Some bytes) is longer = record { bytes = bytes; under = is; longer = longer }

long_under :
    (files : Option (List File)) (name : List ℕ) (limit : ℕ) →
    ((told : List File) → files ≡ Some told → IsSomeAnd (file_named name told) (λ bytes. limit < length bytes)) →
    LongUnder files name limit
long_under None name limit is = record {
  bytes = replicate (limit + 1) 0;
  under = tt;
  longer = omega (arith, length-replicate {A = ℕ} (limit + 1) 0);
}
long_under (Some told) name limit is = long_told told name limit (file_named name told) refl (is told refl)

-- ---- the state of the shelf

module _ (old new : Kept) (files : new.files ≡ old.files) (stores : new.stores ≡ old.stores) where
  but_loads : new ≡ record old { loads = new.loads }
  but_loads =
      let first : new ≡ record new { files = old.files } = ap (λ (fs : Option (List File)). record new { files = fs })
      files in
      first ∙ ap (λ (n : ℕ). record { files = old.files; loads = new.loads; stores = n }) stores

  pub kept_same : new.loads ≡ old.loads → new ≡ old
  kept_same loads = but_loads ∙ ap (λ (n : ℕ). record old { loads = n }) loads

  -- a load that gave bytes or wanted memory left all as it was
  pub loaded_same : (result : Result (Vec ℕ Global) LoadFault) →
      (result ≢ Err Failed → result ≢ Err Missing → new.loads ≡ old.loads) → (bytes : Vec ℕ Global) →
      result ≡ Ok bytes → new ≡ old
  loaded_same result counted bytes is = kept_same (counted (λ failed. cc) (λ missing. cc))

  pub wanted_same : (result : Result (Vec ℕ Global) LoadFault) →
      (result ≢ Err Failed → result ≢ Err Missing → new.loads ≡ old.loads) → result ≡ Err Want → new ≡ old
  wanted_same result counted is = kept_same (counted (λ failed. cc) (λ missing. cc))

  -- ---- why a file was not loaded

  module _ (name : List ℕ) (limit : ℕ) (too_long : Fault) where
    pub is_long :
        (result : Result (Vec ℕ Global) LoadFault) →
        (result ≢ Err Failed → result ≢ Err Missing → new.loads ≡ old.loads) → result ≡ Err TooLong →
        ((told : List File) → old.files ≡ Some told →
        IsSomeAnd (file_named name told) (λ bytes. limit < length bytes)) →
        CannotLoad name limit too_long old new too_long
    is_long result counted is told =
        let l = long_under old.files name limit told in
        IsLong l.bytes l.under l.longer (kept_same (counted (λ failed. cc) (λ missing. cc))) refl

    -- the name that a failure owns
    pub has_failed : (unread : List ℕ) → unread ≡ name → Rose old.loads new.loads →
        CannotLoad name limit too_long old new (NoLoad unread)
    has_failed unread same rose = HasFailed rose but_loads (ap NoLoad same)

    missing_by :
        (fs : Option (List File)) → old.files ≡ fs → (unread : List ℕ) → unread ≡ name →
        ((told : List File) → old.files ≡ Some told → (file_named name told ≡ None) × (new.loads ≡ old.loads)) →
        (old.files ≡ None → Rose old.loads new.loads) → CannotLoad name limit too_long old new (NoLoad unread)
    missing_by None untold unread same told rose = has_failed unread same (rose untold)
    missing_by (Some fs) is unread same told rose =
        let P : Option (List File) → Type 0 = λ f. IsTold f in
        let Q : Option (List File) → Type 0 = λ f. IsUnder f name None in
        IsAbsent (subst P (sym is) tt) (subst Q (sym is) (told fs is).0) (kept_same (told fs is).1) (ap NoLoad same)

    pub is_missing :
        (unread : List ℕ) → unread ≡ name →
        ((told : List File) → old.files ≡ Some told → (file_named name told ≡ None) × (new.loads ≡ old.loads)) →
        (old.files ≡ None → Rose old.loads new.loads) → CannotLoad name limit too_long old new (NoLoad unread)
    is_missing unread same told rose = missing_by old.files refl unread same told rose

-- the length of a vector is that of its list
pub within_items : (bytes : Vec ℕ Global) (limit : ℕ) → vec_len bytes ≤ limit → length bytes.items ≤ limit
within_items bytes limit within = omega (arith, within, bytes.ok.0)
