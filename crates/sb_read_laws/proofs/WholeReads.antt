-- An update in which no slot is lost, by what its images read.
use Rattle.std.proofs.Common.{◌≡◌, inl, inr, ⊎_elim, ℕ, ◌≤◌, true, false, nat_lt, List, Option, Some, sym, ◌∙◌, ap, arith}
use Rattle.std.proofs.lemmas.Bool.Decides.{nat_tests}
use Rattle.sb_specs.specs.raid_types_Sectors.{Sector}
use Rattle.sb_specs.specs.raid_types_Shapes.{has_slot}
use Rattle.sb_specs.specs.sb_codec_the_Sb.{Sb}
use Rattle.sb_specs.specs.declared.change.Give.{Give}
use Rattle.sb_specs.specs.Reading.{Scope}
use Rattle.sb_specs.specs.Update.{planned, give_of, is_behind}
use Rattle.sb_specs.specs.Held.{MayRead, AreHeld, AreLevel, said_by}
use Rattle.sb_specs.specs.Stages.{IsCaughtUp, AreTaken, IsStaged, IsInUpdate, IsFitPlan}
use Rattle.sb_specs.specs.Crash.{EachReadsEither, IsWhole, IsUpdatedTo}
use Rattle.sb_read_laws.proofs.StageReads.{caught_of, caught-held, catching-reads, held-reads, taking-reads, taken-held, taken_read}

equal : (a b : ℕ) → nat_lt a b ≡ false → a ≤ b → a ≡ b
equal a b h le = grind (arith, nat_tests)

module _ (scope : Scope) (known lost left : ℕ) (former newest : Sb) (gives : List Give) (own own' : List (Option Sb)) (d : ℕ → ℕ → List Sector)
    (w : IsWhole scope known lost left former newest gives own own' d) where
  module _ (mid : ℕ → ℕ → List Sector) (caught : IsCaughtUp former own left d mid) where
    -- a slot that is written is at the newest count
    level : AreLevel scope left former mid
    level s found is m =
        let k = w.held.each s (w.within s is) in
        ⊎_elim
        (λ was.
        let x = w.exact s k.sb found is k.own (record { at = m.at; eighth = was.1; ninth = caught.stage.ninth s (m.at 9) m.ninth; is = m.is }) in
        (record k.sb { sb_csum = x.0 }, x.1, equal k.sb.events former.events (sym (ap (is_behind former) k.own) ∙ was.0) k.suited.events))
        (λ plan.
        let r = caught_of scope known lost former own d w.held left w.within s (w.within s is) m.at plan (caught.stage.ninth s (m.at 9) m.ninth) in
        (record r.0 { sb_csum = r.1.0 }, sym m.is ∙ r.1.1, r.3))
        (caught.level s is (m.at 8) m.eighth)

    held : AreHeld scope known lost former own mid
    held = caught-held scope known lost former own d w.held left w.within mid caught.stage

    -- a slot that isn't written has what it had
    kept_read : (s : ℕ) (found : Option Sb) → has_slot left s ≡ false → MayRead scope mid s found → MayRead scope d s found
    kept_read s found none m = ⊎_elim
        (λ there. record { at = m.at; eighth = there; ninth = caught.stage.ninth s (m.at 9) m.ninth; is = m.is })
        (λ plan. absurd (let both = sym plan.0 ∙ none in cc))
        (caught.stage.values s (m.at 8) m.eighth)

    fit : IsFitPlan scope lost former newest gives own left mid
    fit = record {
      sound = w.fit.sound;
      table = w.fit.table;
      later = w.fit.later;
      size = w.fit.size;
      role = λ s role found there none h m. w.fit.role s role found there none h (kept_read s found none m);
      spare = λ s found there none left_ m. w.fit.spare s found there none left_ (kept_read s found none m);
      devices = w.fit.devices;
      one = w.fit.one;
    }

  pub whole-reads : (e : ℕ → ℕ → List Sector) → IsInUpdate former newest gives own left d e → EachReadsEither scope lost (said_by scope known own former) (said_by scope left own' newest) e
  whole-reads e (inl catching) c drawn = inl (catching-reads scope known lost former own d w.held left w.within e c catching drawn)
  whole-reads e (inr staged) c drawn =
      taking-reads scope known lost former own staged.mid (held staged.mid staged.caught) left w.within (level staged.mid staged.caught) newest gives (fit staged.mid staged.caught) own' w.kept
      e c staged.stage drawn

  pub whole-end : (e : ℕ → ℕ → List Sector) → IsStaged former newest gives own left d e → AreTaken newest gives own left e → (s : ℕ) × (has_slot left s ≡ true) → IsUpdatedTo scope lost left newest own' e
  whole-end e staged taken some =
      let mid = staged.mid in
      let h = held mid staged.caught in
      let l = level mid staged.caught in
      let f = fit mid staged.caught in
      let after = taken-held scope known lost former own mid h left w.within l newest gives f own' w.kept e staged.stage left lost taken some (λ s is. is) (λ s is recovery. is) (λ s is. is) in
      record {
        held = after;
        exact = λ s sb found is own_is m.
            let k = h.each s (w.within s is) in
            let new = taken_read scope known lost former own mid h left w.within l newest gives f own' w.kept e staged.stage left lost taken some (λ t it. it) (λ t it recovery. it) (λ t it. it) s is found is m in
            let y = w.kept s k.sb is k.own in
            let same : record (planned newest (give_of gives s) k.sb) { sb_csum = y.0 } ≡ sb = (let both : Some (record (planned newest (give_of gives s) k.sb) { sb_csum = y.0 }) ≡ Some sb = sym y.1 ∙ own_is in cc) in
            (new.0, new.1 ∙ ap (λ (z : Sb). Some (record z { sb_csum = new.0 })) same);
        reads = λ c drawn. held-reads scope left lost newest own' e after left (λ s is. is) c drawn;
      }
