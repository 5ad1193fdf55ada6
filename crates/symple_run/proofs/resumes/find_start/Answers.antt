use Rattle.std.proofs.Common.{◌≡◌, ◌∙◌, List, ℕ, Option, Ok, Err, subst}
use Rattle.std.specs.Prelude.{Vec}
use Rattle.std.specs.Global.{Global}
use Rattle.check_point.specs.declared.fault.ImageFault.{ImageFault}
use Rattle.check_point.specs.declared.fault.ImageFault.TheVariants.{Other, Torn}
use Rattle.check_point.specs.Judgement.{Reads}
use Rattle.command_steps.specs.Commands.{image_name}
use Rattle.command_steps.specs.FileWalks.{GivesTried}
use Rattle.command_steps.specs.States.{shelf_state}
use Rattle.symple_run.proofs.ResumeLaws.{found_image, found_none, name_is}
use Rattle.symple_run.proofs.resumes.find_start.Goals as goal

pub returns-in-Ok-clause-found : goal.returns-in-Ok-clause-found
returns-in-Ok-clause-found g c =
    let old = shelf_state g.H.Shelf.files g.H.Shelf.loads g.H.Shelf.stores c.args.shelf.now in
    let new = shelf_state g.H.Shelf.files g.H.Shelf.loads g.H.Shelf.stores c.try_file.new.shelf in
    let image = image_name c.args.image.now c.args.number in
    let name : c.deref.result.now ≡ image =
    c.deref.ensures ∙ c.in_ok-name.ensures ∙ name_is c.args.image.now c.args.number c.requires in
    let T : List ℕ → Type 0 = λ n. GivesTried old new n 1073741824 (Ok c.in_ok-bytes.field-0) in
    let P : Option (Vec ℕ Global) → Type 0 = λ o. GivesTried old new image 1073741824 (Ok o) in
    let Q : List ℕ → Type 0 = λ bytes.
    Reads c.args.split.now c.args.vertices c.args.key.now bytes (Ok c.in-Ok.start) in
    found_image c.args.split.now c.args.vertices c.args.key.now image old new c.in-Some.bytes.items
    (subst P c.in-Some.is (subst T name c.in_ok-bytes.ensures.tried)) c.in-Ok.start
    (subst Q c.deref-2.ensures.value c.in-Ok.ensures) c.images_read_back.ensures.ready

pub returns-in-Err-Torn-clause-found : goal.returns-in-Err-Torn-clause-found
returns-in-Err-Torn-clause-found g c =
    let old = shelf_state g.H.Shelf.files g.H.Shelf.loads g.H.Shelf.stores c.args.shelf.now in
    let new = shelf_state g.H.Shelf.files g.H.Shelf.loads g.H.Shelf.stores c.try_file.new.shelf in
    let image = image_name c.args.image.now c.args.number in
    let name : c.deref.result.now ≡ image =
    c.deref.ensures ∙ c.in_ok-name.ensures ∙ name_is c.args.image.now c.args.number c.requires in
    let T : List ℕ → Type 0 = λ n. GivesTried old new n 1073741824 (Ok c.in_ok-bytes.field-0) in
    let P : Option (Vec ℕ Global) → Type 0 = λ o. GivesTried old new image 1073741824 (Ok o) in
    let F : ImageFault → Type 0 = λ fault.
    Reads c.args.split.now c.args.vertices c.args.key.now c.deref-2.result.now (Err fault) in
    let Q : List ℕ → Type 0 = λ bytes.
    Reads c.args.split.now c.args.vertices c.args.key.now bytes (Err Torn) in
    let torn = subst Q c.deref-2.ensures.value (subst F c.in-Err-Torn.field-0-is c.in-Err-Torn.ensures) in
    found_none c.args.split.now c.args.vertices c.args.key.now image old new c.in-Some.bytes.items
    (subst P c.in-Some.is (subst T name c.in_ok-bytes.ensures.tried)) (λ is. torn is.whole)

pub returns-in-Err-Other-clause-found : goal.returns-in-Err-Other-clause-found
returns-in-Err-Other-clause-found g c =
    let old = shelf_state g.H.Shelf.files g.H.Shelf.loads g.H.Shelf.stores c.args.shelf.now in
    let new = shelf_state g.H.Shelf.files g.H.Shelf.loads g.H.Shelf.stores c.try_file.new.shelf in
    let image = image_name c.args.image.now c.args.number in
    let name : c.deref.result.now ≡ image =
    c.deref.ensures ∙ c.in_ok-name.ensures ∙ name_is c.args.image.now c.args.number c.requires in
    let T : List ℕ → Type 0 = λ n. GivesTried old new n 1073741824 (Ok c.in_ok-bytes.field-0) in
    let P : Option (Vec ℕ Global) → Type 0 = λ o. GivesTried old new image 1073741824 (Ok o) in
    let F : ImageFault → Type 0 = λ fault.
    Reads c.args.split.now c.args.vertices c.args.key.now c.deref-2.result.now (Err fault) in
    let Q : List ℕ → Type 0 = λ bytes.
    Reads c.args.split.now c.args.vertices c.args.key.now bytes (Err Other) in
    let other = subst Q c.deref-2.ensures.value (subst F c.in-Err-Other.field-0-is c.in-Err-Other.ensures) in
    found_none c.args.split.now c.args.vertices c.args.key.now image old new c.in-Some.bytes.items
    (subst P c.in-Some.is (subst T name c.in_ok-bytes.ensures.tried)) (λ is. other.1 is.own)
