-- How far a run comes that leaves images.
use Rattle.std.proofs.Common.{◌≡◌, ◌≢◌, inl, inr, ℕ, Bool, true, false, List, [], ◌∷◌, ◌++◌, Option, None, Some, refl, sym, ap, subst, ◌∙◌, append_assoc, append-nil}
use Rattle.std.specs.Prelude.{bytes_eq, if◌then◌else◌, option_map}
use Rattle.std.proofs.lemmas.Bool.{false≢true}
use Rattle.std.proofs.lemmas.List.{map-append}
use Rattle.std.proofs.lemmas.Slice.Eq.{bytes_eq-Decides}
use Rattle.command_steps.specs.Leaves.{Gained, Leaves, NotPut, NotStored, Stored, WantsAtPut, WantsAtStore}
use Rattle.command_steps.specs.Notes.{Fault}
use Rattle.command_steps.specs.Orders.{Course, Ends, Fails, IsOver, Keeps, NoTask, Prints, Stores, Takes, Task, follows}
use Rattle.command_steps.specs.States.{Outside}
use Rattle.command_steps.proofs.LeavesLaws.{spared_stays}
use Rattle.outside.specs.Bytes.{gained}
use Rattle.outside.specs.Files.{File, SameBut, file_named, with_file}
use Rattle.outside.proofs.BytesLaws.{gained-gained, gained-nothing}
use Rattle.symple_run.specs.Interrupted.{AreStored, AreStoredBut, CameTo, Store, ToAFault, ToAStore, ToItsEnd, files_in, last_under, stores_in}
use Rattle.symple_run.specs.KeptImages.{StoresImages}

-- ---- files
-- under the name of a store stand its bytes
module _ (name other bytes : List ℕ) (same : other ≡ name) where
  at_file : (file : File) (files : List File) → file_named name (with_file other bytes files) ≡ Some bytes →
      (b : Bool) →
      bytes_eq file.name other ≡ b →
      file_named name (if b then record file { bytes = bytes } ∷ files else file ∷ with_file other bytes files)
      ≡ Some bytes
  at_file file files behind true is =
      ap (λ (c : Bool). if c then Some bytes else file_named name files)
      (subst (λ n. bytes_eq file.name n ≡ true) same is)
  at_file file files behind false is =
      ap (λ (c : Bool). if c then Some file.bytes else file_named name (with_file other bytes files))
      (subst (λ n. bytes_eq file.name n ≡ false) same is)
      ∙ behind

  named_here : (files : List File) → file_named name (with_file other bytes files) ≡ Some bytes
  named_here [] =
      let none : Option (List ℕ) = None in
      ap (λ (b : Bool). if b then Some bytes else none) ((bytes_eq-Decides other name).1 same)
  named_here (file ∷ files) = at_file file files (named_here files) (bytes_eq file.name other) refl

-- and under another one what stood there
named_there : (name other bytes : List ℕ) → name ≢ other → (files : List File) →
    file_named name (with_file other bytes files) ≡ file_named name files
named_there name other bytes differs files =
    let old : Outside = record {
      shelf = record { files = Some files; loads = 0; stores = 0 };
      out = record { bytes = None; faults = 0; spare = 0 };
      input = record { bytes = None; faults = 0 };
    } in
    let new : Outside = record {
      shelf = record { files = Some (with_file other bytes files); loads = 0; stores = 0 };
      out = record { bytes = None; faults = 0; spare = 0 };
      input = record { bytes = None; faults = 0 };
    } in
    spared_stays NoTask name (Stores other bytes Ends) (differs, tt) old new None
    (Stored (record { same = refl; fine = refl }))

named_behind : (name other bytes : List ℕ) (files : List File) →
    file_named name (with_file other bytes files) ≡ (if bytes_eq other name then Some bytes else file_named name files)
named_behind name other bytes files = by_test (bytes_eq other name) refl
  where
    by_test : (b : Bool) → bytes_eq other name ≡ b →
        file_named name (with_file other bytes files) ≡ (if b then Some bytes else file_named name files)
    by_test true is = named_here name other bytes ((bytes_eq-Decides other name).0 is) files
    by_test false is = named_there name other bytes
        (λ e. absurd (false≢true (sym is ∙ (bytes_eq-Decides other name).1 (sym e)))) files

-- one more file was stored
last_more : (name : List ℕ) (stored : List File) (file : File) (before : Option (List ℕ)) →
    last_under name (stored ++ file ∷ []) before
    ≡ (if bytes_eq file.name name then Some file.bytes else last_under name stored before)
last_more name [] file before = refl
last_more name (f ∷ stored) file before =
    last_more name stored file (if bytes_eq f.name name then Some f.bytes else before)

stored_more : (stored : List File) (file : File) (old mid : Option (List File)) → AreStored stored old mid →
    AreStored (stored ++ file ∷ []) old (option_map (with_file file.name file.bytes) mid)
stored_more stored file None mid are = tt
stored_more stored file (Some old) None are = absurd are
stored_more stored file (Some old) (Some mid) are = λ name.
    named_behind name file.name file.bytes mid
    ∙ ap (λ (o : Option (List ℕ)). if bytes_eq file.name name then Some file.bytes else o) (are name)
    ∙ sym (last_more name stored file (file_named name old))

stored_but : (but : List ℕ) (stored : List File) (old mid new : Option (List File)) → AreStored stored old mid →
    SameBut but mid new → AreStoredBut but stored old new
stored_but but stored None mid new are same = tt
stored_but but stored (Some old) None new are same = absurd are
stored_but but stored (Some old) (Some mid) None are same = absurd same
stored_but but stored (Some old) (Some mid) (Some new) are same = λ name differs. same name differs ∙ are name

stored_none : (old : Option (List File)) → AreStored [] old old
stored_none None = tt
stored_none (Some old) = λ name. refl

-- ---- how far the course comes
module _ (courses : Task → Course → Type 0) (image : List ℕ) (whole : Course) (first new : Outside)
    (outcome : Option Fault) where
  came_from :
      (rest : Course) → StoresImages image rest → (done : List Store) (front : List ℕ) →
      stores_in [] whole ≡ done ++ stores_in front rest → (w : Outside) → w.out.bytes ≡ gained first.out.bytes front →
      AreStored (files_in done) first.shelf.files w.shelf.files → Leaves courses (follows rest) w new outcome →
      CameTo whole first new outcome
  came_from IsOver is done front are w put stored ended =
      ToItsEnd ended.fine
      (subst (λ (s : List Store). AreStored (files_in s) first.shelf.files new.shelf.files)
      (sym (are ∙ append-nil done))
      (subst (λ (o : Outside). AreStored (files_in done) first.shelf.files o.shelf.files) (sym ended.same) stored))
  came_from (Fails fault) is done front are w put stored leaves = absurd is
  came_from (Prints text rest) is done front are w put stored (Gained spare spared leaves) =
      came_from rest is done (front ++ text) are _
      (ap (λ (b : Option (List ℕ)). gained b text) put ∙ gained-gained first.out.bytes front text) stored leaves
  came_from (Prints text rest) is done front are w put stored (NotPut fails same why) =
      ToAFault (inl why) (record {
        before = done;
        behind = stores_in (front ++ text) rest;
        stores_are = are;
        stored = subst (λ (o : Outside). AreStored (files_in done) first.shelf.files o.shelf.files) (sym same) stored;
      })
  came_from (Prints text rest) is done front are w put stored (WantsAtPut wants) =
      ToAFault (inr wants.memory) (record {
        before = done;
        behind = stores_in (front ++ text) rest;
        stores_are = are;
        stored = subst (λ (o : Outside). AreStored (files_in done) first.shelf.files o.shelf.files) (sym wants.same)
            stored;
      })
  came_from (Keeps name bytes rest) is done front are w put stored (Stored leaves) =
      let file : File = record { name = name; bytes = bytes } in
      let this : Store = record { front = front; file = file } in
      came_from rest is.1 (done ++ this ∷ []) front
      (are ∙ sym (append_assoc done (this ∷ []) (stores_in front rest))) _ put
      (subst (λ (fs : List File). AreStored fs first.shelf.files (option_map (with_file name bytes) w.shelf.files))
      (sym (map-append (λ (s : Store). s.file) done (this ∷ [])))
      (stored_more (files_in done) file first.shelf.files w.shelf.files stored)) leaves
  came_from (Keeps name bytes rest) is done front are w put stored (NotStored fails same why) =
      ToAStore why (record {
        before = done;
        failed = record { front = front; file = record { name = name; bytes = bytes } };
        behind = stores_in front rest;
        stores_are = are;
        others = stored_but name (files_in done) first.shelf.files w.shelf.files new.shelf.files stored fails.others;
        put = ap (λ (o : Outside). o.out.bytes) same ∙ put;
      })
  came_from (Keeps name bytes rest) is done front are w put stored (WantsAtStore wants) =
      ToAFault (inr wants.memory) (record {
        before = done;
        behind = stores_in front (Keeps name bytes rest);
        stores_are = are;
        stored = subst (λ (o : Outside). AreStored (files_in done) first.shelf.files o.shelf.files) (sym wants.same)
            stored;
      })
  came_from (Takes used text rest) is done front are w put stored leaves = absurd is

-- a run that leaves images came to its end, to a store that failed, or to another fault
pub came_to : (courses : Task → Course → Type 0) (image : List ℕ) (course : Course) → StoresImages image course →
    (w new : Outside) (outcome : Option Fault) → Leaves courses (follows course) w new outcome →
    CameTo course w new outcome
came_to courses image course is w new outcome leaves =
    came_from courses image course w new outcome course is [] [] refl w (sym (gained-nothing w.out.bytes))
    (stored_none w.shelf.files) leaves
