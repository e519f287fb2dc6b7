-- What the members have for a slot is what it holds.
use Rattle.std.proofs.Common.{◌≡◌, ℕ, Bool, true, false, not, ◌&&◌, List, [], ◌∷◌, Option, Some, None, refl, sym, ◌∙◌, ap}
use Rattle.bank.specs.raid_types_Sectors.{Sector}
use Rattle.sb_specs.specs.raid_types_Shapes.{has_slot}
use Rattle.sb_specs.specs.sb_codec_the_Sb.{Sb}
use Rattle.sb_specs.specs.sb_codec_Superblock.{sb_of, checksum}
use Rattle.sb_specs.specs.declared.change.Give.{Give}
use Rattle.sb_specs.specs.Update.{planned, give_of, own_in}
use Rattle.sb_specs.specs.Writing.{IsFirstSector, IsPlanned}
use Rattle.sb_specs.specs.Updating.{ArePlanned}
use Rattle.sb_specs.specs.Outcome.{IsStored, IsPlannedOwn, AreStored, IsHeld, AreHeld, is_left}
use Rattle.sb_update.proofs.Checksums.{checksum-same}

held_stored : (sb : Sb) (stored : Option Sb) (v : Sector) (values : List Sector) → IsStored sb stored → IsFirstSector sb v → values ≡ v ∷ [] → IsHeld stored values
held_stored sb stored v values s f is =
    let same : sb_of s.bytes ≡ record (sb_of f.bytes) { sb_csum = checksum s.bytes } =
    s.fields ∙ ap (λ (x : Sb). record x { sb_csum = checksum s.bytes }) (sym f.fields) in
    let sum = checksum-same s.bytes f.bytes s.small f.small s.long f.long (checksum s.bytes) same in
    record {
      bytes = f.bytes;
      long = f.long;
      small = f.small;
      valid = f.valid;
      own = s.own ∙ ap (λ (x : Sb). Some x) (s.fields ∙ ap (λ (n : ℕ). record sb { sb_csum = n }) sum ∙ sym f.fields);
      alone = is ∙ ap (λ (x : Sector). x ∷ []) f.first;
    }

held_planned : (newest : Sb) (give : Give) (own stored : Option Sb) (v : Sector) (values : List Sector) → IsPlannedOwn newest give own stored → IsPlanned newest give own v → values ≡ v ∷ [] → IsHeld stored values
held_planned newest give None stored v values s f is = absurd s
held_planned newest give (Some own) stored v values s f is = held_stored (planned newest give own) stored v values s f is

first_true : (a b : Bool) → (a && not b) ≡ true → a ≡ true
first_true true b is = refl
first_true false b is = is

second_false : (a b : Bool) → (a && not b) ≡ true → b ≡ false
second_false true true is = sym is
second_false true false is = refl
second_false false b is = absurd (cc)

pub held : (newest : Sb) (gives : List Give) (old own : List (Option Sb)) (live lost : ℕ) (e : ℕ → ℕ → List Sector)
    → AreStored newest gives (is_left live lost) old own → ArePlanned newest gives old live lost e → AreHeld (is_left live lost) own e
held newest gives old own live lost e stored written slot left =
    let w = written slot (first_true (has_slot live slot) (has_slot lost slot) left) (second_false (has_slot live slot) (has_slot lost slot) left) in
    held_planned newest (give_of gives slot) (own_in old slot) (own_in own slot) w.0 (e slot 8) (stored.written slot left) w.1 w.2
