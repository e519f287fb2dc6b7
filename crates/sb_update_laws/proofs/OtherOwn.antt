-- The rounds of an update, of which another one that leaves each slot what it is plans the same, by other superblocks.
use Rattle.std.proofs.Common.{◌≡◌, ◌≢◌, inl, inr, ⊎_elim, ℕ, zero, suc, ◌+◌, ◌-◌, ◌^◌, min, Bool, true, false, List, [], ◌∷◌, replicate, Option, Some, None, refl, sym, ◌∙◌, ap, subst}
use Rattle.std.proofs.lemmas.Bool.{cases_eq}
use Rattle.sb_read_laws.specs.raid_types_Sectors.{Sector}
use Rattle.sb_read_laws.specs.raid_types_Shapes.{has_slot}
use Rattle.sb_read_laws.specs.sb_codec_the_Sb.{Sb}
use Rattle.sb_read_laws.specs.bank_Tape.{Contents, IsIn}
use Rattle.sb_read_laws.specs.sb_specs_the_Give.{Give}
use Rattle.sb_read_laws.specs.sb_specs_the_Give_TheVariants.{Same}
use Rattle.sb_read_laws.specs.sb_specs_the_Change.{Change}
use Rattle.sb_read_laws.specs.sb_specs_the_Members.{Members}
use Rattle.sb_read_laws.specs.sb_specs_Update.{planned, give_of, own_in, with_roles}
use Rattle.sb_read_laws.specs.sb_specs_Updating.{planned_newest}
use Rattle.sb_read_laws.specs.sb_specs_Writing.{IsFirstSector, IsPlanned}
use Rattle.sb_read_laws.specs.sb_specs_Held.{AreDrawn}
use Rattle.sb_read_laws.specs.sb_specs_Rounds.{Round, naming, first_newest, IsRewriting, IsRewritten, AreNamings, members_at}
use Rattle.sb_update_laws.proofs.AddedReads.{put, put_here, put_slot, put_ninth, in_put}
use Rattle.sb_update_laws.specs.MakingWhole.{without_gives}
use Rattle.sb_update_laws.proofs.Wide as wide

abbrev Disk : Type 0
Disk = ℕ → ℕ → List Sector

pub planned_some : (newest : Sb) (g : Give) (held : Option Sb) (v : Sector) → IsPlanned newest g held v → (sb : Sb) × (held ≡ Some sb) × IsFirstSector (planned newest g sb) v
planned_some newest g None v plan = absurd plan
planned_some newest g (Some sb) v plan = (sb, refl, plan)

-- ---- the one slot's row, once it is lost

abbrev pub put_round : ℕ → List Sector → Round → Round
put_round slot row r = record { newest = r.newest; lost = r.lost; disk = put slot row r.disk }

pub put_in : (slot : ℕ) (row : List Sector) (e : Disk) (s : ℕ) (v : Sector) → s ≡ slot → IsIn row v → IsIn (put slot row e s 8) v
put_in slot row e s v same is_in = subst (λ (t : ℕ). IsIn (put slot row e t 8) v) (sym same) (subst (λ (l : List Sector). IsIn l v) (sym (put_here slot row e)) is_in)

pub put_other : (slot : ℕ) (row : List Sector) (e : Disk) (s : ℕ) (v : Sector) → s ≢ slot → IsIn (e s 8) v → IsIn (put slot row e s 8) v
put_other slot row e s v apart is_in = subst (λ (l : List Sector). IsIn l v) (sym (put_slot slot row e s 8 apart)) is_in

pub from_ninth : (slot : ℕ) (row : List Sector) (e : Disk) (s : ℕ) (v : Sector) → IsIn (put slot row e s 9) v → IsIn (e s 9) v
from_ninth slot row e s v is_in = subst (λ (l : List Sector). IsIn l v) (put_ninth slot row e s) is_in

pub to_ninth : (slot : ℕ) (row : List Sector) (e : Disk) (s : ℕ) (v : Sector) → IsIn (e s 9) v → IsIn (put slot row e s 9) v
to_ninth slot row e s v is_in = subst (λ (l : List Sector). IsIn l v) (sym (put_ninth slot row e s)) is_in

-- an image is drawn from what it has itself in the slot
pub drawn_put : (slot : ℕ) (e : Disk) (c : Contents) → AreDrawn e c → AreDrawn (put slot (c slot 8 ∷ []) e) c
drawn_put slot e c drawn s = (eighth, to_ninth slot (c slot 8 ∷ []) e s (c s 9) (drawn s).1)
  where
    eighth : IsIn (put slot (c slot 8 ∷ []) e s 8) (c s 8)
    eighth = elim (cases_eq s slot) [
      | inl same ↦ put_in slot (c slot 8 ∷ []) e s (c s 8) same (inl (ap (λ (t : ℕ). c t 8) same))
      | inr apart ↦ put_other slot (c slot 8 ∷ []) e s (c s 8) apart (drawn s).0
    ]

-- with fewer values of the slot
pub fewer_row : (newest : Sb) (gives : List Give) (own : List (Option Sb)) (live lost slot : ℕ) (row : List Sector) (d e : Disk) → ((v : Sector) → IsIn row v → IsIn (e slot 8) v)
    → IsRewriting newest gives own live lost d e → IsRewriting newest gives own live lost d (put slot row e)
fewer_row newest gives own live lost slot row d e fewer stage = record {
  values = λ s v held. ⊎_elim
      (λ here. stage.values s v (subst (λ (t : ℕ). IsIn (e t 8) v) (sym here.0) (fewer v here.1)))
      (λ other. stage.values s v other.1)
      (in_put slot row e s v held);
  ninth = λ s v held. stage.ninth s v (from_ninth slot row e s v held);
}

clash : {b : Bool} → b ≡ true → b ≡ false → ⊥
clash is none = absurd (let both = sym is ∙ none in cc)

pub rewriting_put : (newest : Sb) (gives : List Give) (own : List (Option Sb)) (live lost slot : ℕ) (row : List Sector) (d e : Disk) → IsRewriting newest gives own live lost d e
    → IsRewriting newest gives own live lost (put slot row d) (put slot row e)
rewriting_put newest gives own live lost slot row d e stage = record {
  values = λ s v held. ⊎_elim
      (λ here. inl (put_in slot row d s v here.0 here.1))
      (λ other. ⊎_elim (λ was. inl (put_other slot row d s v other.0 was)) (λ w. inr w) (stage.values s v other.1))
      (in_put slot row e s v held);
  ninth = λ s v held. to_ninth slot row d s v (stage.ninth s v (from_ninth slot row e s v held));
}

rewritten_put : (newest : Sb) (gives : List Give) (own : List (Option Sb)) (live lost lost' slot : ℕ) (row : List Sector) (d e : Disk) → has_slot lost slot ≡ true
    → IsRewritten newest gives own live lost lost' d e → IsRewritten newest gives own live lost lost' (put slot row d) (put slot row e)
rewritten_put newest gives own live lost lost' slot row d e is_lost written = record {
  stage = rewriting_put newest gives own live lost slot row d e written.stage;
  whole = λ s v is none held. ⊎_elim
      (λ here. absurd (clash (written.more slot is_lost) (subst (λ (t : ℕ). has_slot lost' t ≡ false) here.0 none)))
      (λ other. written.whole s v is none other.1)
      (in_put slot row e s v held);
  more = written.more;
}

-- ---- the rounds that name lost slots

pub namings_more : (members : Members) (change : Change) (before live n : ℕ) (a b : Round) → AreNamings members change before live n a b → (s : ℕ) → has_slot a.lost s ≡ true → has_slot b.lost s ≡ true
unfolding AreNamings
namings_more members change before live zero a b same s is = subst (λ (r : Round). has_slot r.lost s ≡ true) same is
namings_more members change before live (suc n) a b (mid, over, next) s is = next.written.more s (namings_more members change before live n a mid over s is)

-- a lost slot isn't written
pub namings_trace : (members : Members) (change : Change) (before live slot n : ℕ) (a b : Round) → has_slot a.lost slot ≡ true → AreNamings members change before live n a b
    → (v : Sector) → IsIn (b.disk slot 8) v → IsIn (a.disk slot 8) v
unfolding AreNamings
namings_trace members change before live slot zero a b is_lost same v held = subst (λ (r : Round). IsIn (r.disk slot 8) v) (sym same) held
namings_trace members change before live slot (suc n) a b is_lost (mid, over, next) v held = ⊎_elim
    (λ was. namings_trace members change before live slot n a mid is_lost over v was)
    (λ w. absurd (clash (namings_more members change before live n a mid over slot is_lost) w.1))
    (next.written.stage.values slot v held)

pub namings_put : (members : Members) (change : Change) (before live slot : ℕ) (row : List Sector) (n : ℕ) (a b : Round) → has_slot a.lost slot ≡ true → AreNamings members change before live n a b
    → AreNamings members change before live n (put_round slot row a) (put_round slot row b)
unfolding AreNamings
namings_put members change before live slot row zero a b is_lost same = ap (λ (r : Round). put_round slot row r) same
namings_put members change before live slot row (suc n) a b is_lost (mid, over, next) = (
  put_round slot row mid,
  namings_put members change before live slot row n a mid is_lost over,
  record {
    newest = next.newest;
    written = rewritten_put b.newest change.gives members.own live mid.lost b.lost slot row mid.disk b.disk (namings_more members change before live n a mid over slot is_lost) next.written;
  },
)

-- ---- by other superblocks, of the slots that count

module _ (members : Members) (change : Change) (own : List (Option Sb)) (Counts : ℕ → Type 0)
    (world : (s : ℕ) (sb : Sb) → Counts s → own_in members.own s ≡ Some sb
    → (z : Sb) × (own_in own s ≡ Some z) × ((newest : Sb) → planned newest (give_of (replicate 32 Same) s) z ≡ planned newest (give_of change.gives s) sb))
    (roles : (before lost : ℕ) (table : List ℕ) → with_roles (record members { own = own }) (without_gives change) before lost table ≡ with_roles members change before lost table) where
  abbrev Others : Members
  Others = record members { own = own }

  pub plan_over : (newest : Sb) (s : ℕ) (v : Sector) → Counts s → IsPlanned newest (give_of change.gives s) (own_in members.own s) v → IsPlanned newest (give_of (replicate 32 Same) s) (own_in own s) v
  plan_over newest s v counts plan =
      let p = planned_some newest (give_of change.gives s) (own_in members.own s) v plan in
      let w = world s p.0 counts p.1 in
      subst (λ (h : Option Sb). IsPlanned newest (give_of (replicate 32 Same) s) h v) (sym w.1) (subst (λ (z : Sb). IsFirstSector z v) (sym (w.2 newest)) p.2)

  rewriting_over : (newest : Sb) (live lost : ℕ) (d e : Disk) → ((s : ℕ) → has_slot lost s ≡ false → Counts s) → IsRewriting newest change.gives members.own live lost d e
      → IsRewriting newest (replicate 32 Same) own live lost d e
  rewriting_over newest live lost d e counts stage = record {
    values = λ s v held. ⊎_elim (λ was. inl was) (λ w. inr (w.0, w.1, plan_over newest s v (counts s w.1) w.2)) (stage.values s v held);
    ninth = stage.ninth;
  }

  rewritten_over : (newest : Sb) (live lost lost' : ℕ) (d e : Disk) → ((s : ℕ) → has_slot lost s ≡ false → Counts s) → IsRewritten newest change.gives members.own live lost lost' d e
      → IsRewritten newest (replicate 32 Same) own live lost lost' d e
  rewritten_over newest live lost lost' d e counts written = record {
    stage = rewriting_over newest live lost d e counts written.stage;
    whole = λ s v is none held. plan_over newest s v (counts s (wide.outside lost lost' s (written.more s) none)) (written.whole s v is none held);
    more = written.more;
  }

  naming_same : (before lost : ℕ) (newest : Sb) → naming Others (without_gives change) before lost newest ≡ naming members change before lost newest
  naming_same before lost newest = ap (λ (r : List ℕ). record newest { events = min (newest.events + 1) (2 ^ 64 - 1); dev_roles = r }) (roles before lost newest.dev_roles)

  pub stage_over : (before live : ℕ) (start : Round) (e : Disk) → ((s : ℕ) → has_slot start.lost s ≡ false → Counts s)
      → IsRewriting (naming members change before start.lost start.newest) change.gives members.own live start.lost start.disk e
      → IsRewriting (naming Others (without_gives change) before start.lost start.newest) (replicate 32 Same) own live start.lost start.disk e
  stage_over before live start e counts stage = subst (λ (n : Sb). IsRewriting n (replicate 32 Same) own live start.lost start.disk e) (sym (naming_same before start.lost start.newest))
      (rewriting_over (naming members change before start.lost start.newest) live start.lost start.disk e counts stage)

  pub first_same : (before lost : ℕ) (newest : Sb) → first_newest Others (without_gives change) before lost newest ≡ first_newest members change before lost newest
  first_same before lost newest = ap (λ (r : List ℕ). record (planned_newest change.shared newest) { dev_roles = r }) (roles before lost newest.dev_roles)

  pub namings_over : (before live n : ℕ) (first a b : Round) → ((s : ℕ) → has_slot a.lost s ≡ false → Counts s) → AreNamings (members_at members first) change before live n a b
      → AreNamings (members_at Others first) (without_gives change) before live n a b
  unfolding AreNamings
  namings_over before live zero first a b counts same = same
  namings_over before live (suc n) first a b counts (mid, over, next) = (
    mid,
    namings_over before live n first a mid counts over,
    record {
      newest = next.newest ∙ sym (naming_same before mid.lost mid.newest);
      written = rewritten_over b.newest live mid.lost b.lost mid.disk b.disk
          (λ s none. counts s (wide.outside a.lost mid.lost s (namings_more (members_at members first) change before live n a mid over s) none)) next.written;
    },
  )
