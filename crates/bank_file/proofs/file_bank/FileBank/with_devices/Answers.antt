use Rattle.std.proofs.Common.{◌≡◌, ◌/◌, ◌++◌, ◌∷◌, [], List, ℕ, length, map, refl, sym, ◌∙◌, ap, subst, append_assoc, append-nil, arith, All}
use Rattle.std.proofs.lemmas.List.{map_push}
use Rattle.std.proofs.lemmas.List.Elements.{All-push}
use Rattle.std.specs.Vec.Iter.{into_iter_items}
use Rattle.bank_file.specs.Images.{IsFreshDevice}
use Rattle.bank_file.specs.declared.image.Image.{Image}
use Rattle.bank_file.proofs.Opened.{all_unmapped, opened}
use Rattle.bank_file.proofs.file_bank.FileBank.with_devices.Goals as goal

none-left : {X : Type 0} (l : List X) → length l ≡ 0 → l ≡ []
none-left [] is = refl
none-left (x ∷ l) is = absurd (omega arith)

-- all are taken
taken : {X : Type 0} (made yielded rest all : List X) → made ≡ yielded → yielded ++ rest ≡ all → length rest ≡ 0 → made ≡ all
taken made yielded rest all same whole none = same ∙ sym (append-nil yielded) ∙ ap (λ l. yielded ++ l) (sym (none-left rest none)) ∙ whole

pub loop-device-preserved : goal.loop-device-preserved
loop-device-preserved g c =
    let at = c.loop-device in
    let was = at.invariant in
    let x = c.in-Some.device in
    let steps : into_iter_items at.device-iterator ≡ x ∷ into_iter_items c.next.new.self = c.in-Some.ensures.steps.0 in
    let gone = c.in-Some.ensures.steps.1 in
    let items = c.in_ok-push.ensures.items in
    let long = c.new.ensures.sectors ∙ ap (λ (n : ℕ). n / 512) c.size-bytes.ensures in
    let new = c.new.result in
    let new_device : new.device ≡ x = c.new.ensures.device in
    let devices = map (λ (image : Image g.row.D.Denot). image.device) at.images.items in
    let sectors = map (λ (image : Image g.row.D.Denot). image.sectors) at.images.items in (
      append_assoc at.yielded (x ∷ []) _ ∙ rw (← steps) was.0,
      (let long = was.1 in let short = ap length steps in omega (arith, long, short, gone)),
      ap (λ (l : List (Image g.row.D.Denot)). map (λ image. image.device) l) items ∙ map_push (λ (image : Image g.row.D.Denot). image.device) at.images.items new ∙ (λ i. was.2 i ++ new_device i ∷ []),
      ap (λ (l : List (Image g.row.D.Denot)). map (λ image. image.sectors) l) items ∙ map_push (λ (image : Image g.row.D.Denot). image.sectors) at.images.items new ∙ (λ i. was.3 i ++ long i ∷ [])
          ∙ sym (map_push (λ device. g.D.Device.size device / 512) at.yielded x),
      subst (λ (l : List (Image g.row.D.Denot)). All (λ image. image.faults ≡ 0) l) (sym items) (All-push (λ (image : Image g.row.D.Denot). image.faults ≡ 0) at.images.items new was.4 c.new.ensures.faults),
    )

pub of-requires-clause-fresh : goal.of-requires-clause-fresh
of-requires-clause-fresh g c told =
    let was = c.loop-device.invariant in
    let ended = c.in-None.ensures.steps in
    let all : map (λ image. image.device) c.loop-device.images.items ≡ c.args.devices.items =
    taken _ c.loop-device.yielded (into_iter_items c.loop-device.device-iterator) c.args.devices.items was.2 was.0 (let long = was.1 in omega (arith, long, ended.0)) in
    all_unmapped (IsFreshDevice g.D.Device.start g.D.Device.bytes g.D.Device.log) (λ (image : Image g.row.D.Denot). image.device) c.loop-device.images.items
    (subst (λ (l : List g.row.D.Denot). All (IsFreshDevice g.D.Device.start g.D.Device.bytes g.D.Device.log) l) (sym all) (c.requires.fresh told))

pub returns : goal.returns
returns g c =
    let was = c.loop-device.invariant in
    let ended = c.in-None.ensures.steps in
    let none : length (into_iter_items c.loop-device.device-iterator) ≡ 0 = let long = was.1 in omega (arith, long, ended.0) in
    let all : map (λ image. image.device) c.loop-device.images.items ≡ c.args.devices.items =
    taken _ c.loop-device.yielded (into_iter_items c.loop-device.device-iterator) c.args.devices.items was.2 was.0 none in
    let yielded : c.loop-device.yielded ≡ c.args.devices.items = taken c.loop-device.yielded c.loop-device.yielded (into_iter_items c.loop-device.device-iterator) c.args.devices.items refl was.0 none in
    let images = c.of.ensures.images in record {
      opened = opened g.D.Device.start g.D.Device.bytes g.D.Device.log g.D.Device.size c.args.devices.items c.of.result
          (ap (λ (l : List (Image g.row.D.Denot)). map (λ image. image.device) l) images ∙ all)
          (ap (λ (l : List (Image g.row.D.Denot)). map (λ image. image.sectors) l) images ∙ was.3 ∙ ap (λ (l : List g.row.D.Denot). map (λ device. g.D.Device.size device / 512) l) yielded)
          (subst (λ (l : List (Image g.row.D.Denot)). All (λ image. image.faults ≡ 0) l) (sym images) was.4) c.of.ensures.ops c.requires.fresh;
    }
