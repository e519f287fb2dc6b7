-- What images read while an update makes a recovering slot whole.
use Rattle.std.proofs.Common.{◌≡◌, ◌≢◌, ◌⊎◌, inl, inr, ⊎_elim, ℕ, zero, suc, ◌+◌, ◌^◌, ◌<◌, ◌≤◌, Bool, true, false, length, List, [], ◌∷◌, replicate, Option, refl, sym, ◌∙◌, ap, subst, arith}
use Rattle.std.proofs.lemmas.Bool.{cases_eq}
use Rattle.sb_read_laws.specs.raid_types_Sectors.{Sector}
use Rattle.sb_read_laws.specs.raid_types_Shapes.{has_slot}
use Rattle.sb_read_laws.specs.sb_codec_the_Sb.{Sb}
use Rattle.sb_read_laws.specs.bank_Tape.{Contents, IsIn}
use Rattle.sb_read_laws.specs.sb_specs_the_Give_TheVariants.{Same}
use Rattle.sb_read_laws.specs.sb_specs_the_Change.{Change}
use Rattle.sb_read_laws.specs.sb_specs_the_Members.{Members}
use Rattle.sb_read_laws.specs.sb_specs_Reading.{Scope}
use Rattle.sb_read_laws.specs.sb_specs_Update.{give_of, own_in, is_recovery}
use Rattle.sb_read_laws.specs.sb_specs_Writing.{IsPlanned}
use Rattle.sb_read_laws.specs.sb_specs_Held.{AreDrawn}
use Rattle.sb_read_laws.specs.sb_specs_Stages.{IsTaking}
use Rattle.sb_read_laws.specs.sb_specs_Rounds.{Round, naming, first_newest, IsRewriting, AreNamings, IsInNaming, IsCaughtUpTo, IsFirstRewriting, IsInFirst, IsPastFirst, members_at, IsReadAsBefore, IsReadAsPlanned, IsReadInUpdate, IsReady}
use Rattle.sb_read_laws.proofs.sb_specs_ReadLists.{by_bool}
use Rattle.sb_read_laws.proofs.sb_specs_Exact.{all_same}
use Rattle.sb_read_laws.proofs.sb_specs_UpdateReads.{some-or-all}
use Rattle.sb_read_laws.proofs.StageReads.{new_of, taking-later}
use Rattle.sb_read_laws.specs.sb_specs_Crash.{IsWithin}
use Rattle.sb_read_laws.proofs.PlanFits.{length-any}
use Rattle.sb_read_laws.proofs.RoundReads.{fit-of, planned_list, naming-reads, all-named, planned-wider}
use Rattle.sb_read_laws.proofs.RoundsRead.{before-reads, first-reads, rounds-read, rounds-end}
use Rattle.sb_update_laws.proofs.AddedReads.{put, put_here, in_put}
use Rattle.sb_update_laws.specs.MakingWhole.{without_gives, IsMakingWhole}
use Rattle.sb_update_laws.proofs.Wide as wide
use Rattle.sb_update_laws.proofs.OtherOwn.{put_round, drawn_put, fewer_row, rewriting_put, namings_more, namings_trace, namings_put, plan_over, stage_over, first_same, namings_over}
use Rattle.sb_update_laws.proofs.WholeBefore.{roles_same, other_world, whole_own, whole_members, whole_roles, whole_world, slot_live, whole_ready, whole_caught, whole_stage, planned-back}

abbrev Disk : Type 0
Disk = ℕ → ℕ → List Sector

clash : {b : Bool} → b ≡ true → b ≡ false → ⊥
clash is none = absurd (let both = sym is ∙ none in cc)

-- no slot gets a recovery offset
pub no_recovery : (s : ℕ) → is_recovery (give_of (replicate 32 Same) s) ≡ true → ⊥
no_recovery s r = absurd (let none : false ≡ true = sym (ap is_recovery (all_same 32 s)) ∙ r in cc)

pub first_stage : (newest : Sb) (own : List (Option Sb)) (live lost : ℕ) (d e : Disk) → IsRewriting newest (replicate 32 Same) own live lost d e → IsFirstRewriting newest (replicate 32 Same) own live lost d e
first_stage newest own live lost d e stage = record { stage = stage; order = inr (λ s v is none r held. absurd (no_recovery s r)) }

-- ---- the superblocks of the slot that were written alone: each image reads as planned

module _ (scope : Scope) (known left : ℕ) (members : Members) (change : Change) (before live : ℕ) (d : Disk) (ready : IsReady scope known left members (without_gives change) live d) where
  same_lost : (mid : Round) (s : ℕ) → has_slot mid.lost s ≡ true → has_slot mid.lost s ≡ true
  same_lost mid s is = is

  -- in the first round, where this slot was written
  written-reads : (mid : Round) (caught : IsCaughtUpTo members.newest members.own live members.lost d mid) (slot : ℕ) (e : Disk)
      → IsRewriting (first_newest members (without_gives change) before mid.lost members.newest) (replicate 32 Same) members.own live mid.lost mid.disk e → (c : Contents) → AreDrawn e c
      → has_slot live slot ≡ true → has_slot mid.lost slot ≡ false
      → IsPlanned (first_newest members (without_gives change) before mid.lost members.newest) (give_of (replicate 32 Same) slot) (own_in members.own slot) (c slot 8)
      → IsReadAsPlanned scope members (without_gives change) before live mid.lost c
  written-reads mid caught slot e stage c drawn is none plan =
      let more = same_lost mid in
      let held = wide.held scope members (without_gives change) before live known left d ready mid caught mid.lost more in
      let sub = wide.sub scope members (without_gives change) before live known left d ready mid caught mid.lost more in
      let level = wide.level scope members (without_gives change) before live known left d ready mid caught mid.lost more in
      let fit = wide.fit scope members (without_gives change) before live known left d ready mid caught mid.lost more in
      let kept = wide.kept scope members (without_gives change) before live known left d ready mid caught mid.lost more in
      let rest : ℕ = wide.left_in scope members (without_gives change) before live known left d ready mid caught mid.lost more in
      let newest : Sb = first_newest members (without_gives change) before mid.lost members.newest in
      let own' : List (Option Sb) = planned_list newest (replicate 32 Same) members.own in
      let is_left = wide.is_left scope members (without_gives change) before live known left d ready mid caught mid.lost more in
      let taking : IsTaking newest (replicate 32 Same) members.own rest mid.disk e = record {
        values = λ s v is_in. ⊎_elim (λ was. inl was) (λ w. inr (is_left s w.0 w.1, w.2)) (stage.values s v is_in);
        order = inr (λ s v is_ r is_in. absurd (no_recovery s r));
        ninth = stage.ninth;
      } in
      record {
        newest = newest;
        named = mid.lost;
        lost = mid.lost;
        left = rest;
        own = own';
        are = wide.are scope members (without_gives change) before live known left d ready mid caught mid.lost more;
        more = caught.more;
        within = λ s is. is;
        later = wide.later scope members (without_gives change) before live known left d ready mid caught mid.lost more;
        plan = (members.newest.dev_roles, refl);
        table = length-any members (without_gives change) before mid.lost members.newest.dev_roles ∙ ready.held.table;
        kept = kept;
        reads = taking-later scope known mid.lost members.newest members.own mid.disk held rest sub level newest (replicate 32 Same) fit own' kept e c taking drawn (
          slot,
          is_left slot is none,
          new_of scope known mid.lost members.newest members.own mid.disk held rest sub level newest (replicate 32 Same) fit own' kept slot (is_left slot is none) (c slot) plan
              (stage.ninth slot (c slot 9) (drawn slot).1),
        );
      }

  some_left : (lost : ℕ) → ((s : ℕ) × (has_slot live s ≡ true) × (has_slot lost s ≡ false)) ⊎ ((s : ℕ) → has_slot live s ≡ true → has_slot lost s ≡ false → ⊥)
  some_left lost = ⊎_elim (λ found. inl (found.0, found.2.0, found.2.1))
      (λ all. inr (λ s is none. all s (wide.there scope members (without_gives change) before live known left d ready s is) is none))
      (some-or-all scope.sizes.slots (λ s. has_slot live s ≡ true → has_slot lost s ≡ false → ⊥) (λ s. (has_slot live s ≡ true) × (has_slot lost s ≡ false)) (λ s h. ⊎_elim
      (λ is. ⊎_elim (λ gone. inl (λ is' none. absurd (clash gone none))) (λ none. inr (is, none)) (by_bool (has_slot lost s)))
      (λ not_live. inl (λ is' none. absurd (clash is' not_live))) (by_bool (has_slot live s))))

  module _ (first : Round) (past : IsPastFirst members (without_gives change) before live d first)
      (each : (c : Contents) → AreDrawn first.disk c → IsReadAsPlanned scope members (without_gives change) before live first.lost c) where
    -- in a round that names lost slots
    next-reads : (n : ℕ) (start : Round) → AreNamings (members_at members first) (without_gives change) before live n first start → members.newest.events + 2 + n < 2 ^ 62
        → ((c : Contents) → AreDrawn start.disk c → IsReadAsPlanned scope members (without_gives change) before live start.lost c)
        → (e : Disk) → IsRewriting (naming members (without_gives change) before start.lost start.newest) (replicate 32 Same) members.own live start.lost start.disk e
        → (c : Contents) → AreDrawn e c → IsReadAsPlanned scope members (without_gives change) before live start.lost c
    next-reads n start over small earlier e stage c drawn = ⊎_elim
        (λ some. all-named scope members (without_gives change) before live start.lost c
        (naming-reads scope members (without_gives change) before live known left (λ s. ⊥) (fit-of scope known left members (without_gives change) live d ready) n start
        (rounds-end scope members (without_gives change) before live known left d ready first start n past over (omega (arith, small)) some) small e c stage drawn))
        (λ none. earlier c (λ s. (⊎_elim (λ was. was) (λ w. absurd (none s w.0 w.1)) (stage.values s (c s 8) (drawn s).0), stage.ninth s (c s 9) (drawn s).1)))
        (some_left start.lost)

    over-reads : (n : ℕ) (b : Round) → AreNamings (members_at members first) (without_gives change) before live n first b → members.newest.events + 1 + n < 2 ^ 62
        → (c : Contents) → AreDrawn b.disk c → IsReadAsPlanned scope members (without_gives change) before live b.lost c
    unfolding AreNamings
    over-reads zero b same small c drawn = subst (λ (r : Round). IsReadAsPlanned scope members (without_gives change) before live r.lost c) same (each c (subst (λ (r : Round). AreDrawn r.disk c) (sym same) drawn))
    over-reads (suc n) b (mid, over, next) small c drawn =
        planned-wider scope members (without_gives change) before live mid.lost b.lost c next.written.more
        (next-reads n mid over (omega (arith, small)) (over-reads n mid over (omega (arith, small))) b.disk
        (subst (λ (m : Sb). IsRewriting m (replicate 32 Same) members.own live mid.lost mid.disk b.disk) next.newest next.written.stage) c drawn)

    pub planned-read : (e : Disk) (c : Contents) → (at : IsInNaming (members_at members first) (without_gives change) before live first e) → members.newest.events + 2 + at.rounds < 2 ^ 62 → AreDrawn e c
        → IsReadAsPlanned scope members (without_gives change) before live at.start.lost c
    planned-read e c at small drawn = next-reads at.rounds at.start at.over small (over-reads at.rounds at.start at.over (omega (arith, small))) e at.stage c drawn

-- ---- the two ways in which an image has the slot

module _ (scope : Scope) (known left : ℕ) (members : Members) (change : Change) (before live slot role : ℕ) (d : Disk) (making : IsMakingWhole members change slot role)
    (ready : IsReady scope known left members (without_gives change) live d) where
  abbrev Reads : ℕ → Contents → Type 0
  Reads last c = IsReadAsBefore scope known members c ⊎ (IsReadAsPlanned scope members change before live last c ⊎ IsReadAsPlanned scope members (without_gives change) before live last c)

  -- where more are lost at the end
  pub more-lost : (last last' : ℕ) (c : Contents) → IsWithin last last' → Reads last c → Reads last' c
  more-lost last last' c more (inl r) = inl r
  more-lost last last' c more (inr (inl r)) = inr (inl (planned-wider scope members change before live last last' c more r))
  more-lost last last' c more (inr (inr r)) = inr (inr (planned-wider scope members (without_gives change) before live last last' c more r))

  abbrev Whole : Members
  Whole = whole_members members change slot role making

  abbrev Own : List (Option Sb)
  Own = whole_own members change slot role making

  abbrev Without : Change
  Without = without_gives change

  recovering_still : (last : ℕ) (c : Contents) → IsReadInUpdate scope known members Without before live last c → Reads last c
  recovering_still last c r = ⊎_elim (λ b. inl b) (λ p. inr (inr p)) r

  long : 128 ≤ length members.newest.dev_roles
  long = omega (arith, ready.held.table)

  made_whole : (last : ℕ) (c : Contents) → IsReadAsPlanned scope Whole Without before live last c → Reads last c
  made_whole last c r = inr (inl (planned-back scope members change before live slot role last making c long r))

  -- what the change plans, by the members in which the slot was whole
  over_whole : (newest : Sb) (s : ℕ) (v : Sector) → IsPlanned newest (give_of change.gives s) (own_in members.own s) v → IsPlanned newest (give_of (replicate 32 Same) s) (own_in Own s) v
  over_whole newest s v plan = plan_over members change Own (λ t. Unit {0}) (whole_world members change slot role making long) (whole_roles members change slot role making) newest s v tt plan

  first_whole : (lost : ℕ) (newest : Sb) → first_newest Whole Without before lost newest ≡ first_newest members change before lost newest
  first_whole = first_same members change Own (λ t. Unit {0}) (whole_world members change slot role making long) (whole_roles members change slot role making) before

  first_other : (lost : ℕ) (newest : Sb) → first_newest members Without before lost newest ≡ first_newest members change before lost newest
  first_other = first_same members change members.own (λ t. t ≢ slot) (other_world members change slot role making) (roles_same members change slot role making) before

  -- where the slot holds former values, the change without its gives writes the same
  pub former_stage : (newest : Sb) (lost : ℕ) (a e : Disk) → ((v : Sector) → IsIn (e slot 8) v → IsIn (a slot 8) v) → IsRewriting newest change.gives members.own live lost a e
      → IsRewriting newest (replicate 32 Same) members.own live lost a e
  former_stage newest lost a e former stage = record {
    values = λ s v held. elim (cases_eq s slot) [
      | inl same ↦ inl (subst (λ (t : ℕ). IsIn (a t 8) v) (sym same) (former v (subst (λ (t : ℕ). IsIn (e t 8) v) same held)))
      | inr apart ↦ ⊎_elim (λ was. inl was)
          (λ w. inr (w.0, w.1, plan_over members change members.own (λ t. t ≢ slot) (other_world members change slot role making) (roles_same members change slot role making) newest s v apart w.2)) (stage.values s v held)
    ];
    ninth = stage.ninth;
  }

  abbrev Row : Contents → List Sector
  Row c = c slot 8 ∷ []

  row_of : (c : Contents) (P : Sector → Type 0) → P (c slot 8) → (v : Sector) → IsIn (Row c) v → P v
  row_of c P p v (inl same) = subst P (sym same) p
  row_of c P p v (inr none) = absurd none

  module _ (mid : Round) (caught : IsCaughtUpTo members.newest members.own live members.lost d mid) where
    abbrev First : Sb
    First = first_newest members change before mid.lost members.newest

    -- in the first round
    stage-reads : (e : Disk) → IsRewriting First change.gives members.own live mid.lost mid.disk e → (c : Contents) → AreDrawn e c → Reads mid.lost c
    stage-reads e stage c drawn = ⊎_elim
        (λ was. recovering_still mid.lost c (first-reads scope members Without before live known left d ready mid caught (put slot (Row c) e) c
        (subst (λ (n : Sb). IsFirstRewriting n (replicate 32 Same) members.own live mid.lost mid.disk (put slot (Row c) e)) (sym (first_other mid.lost members.newest))
        (first_stage First members.own live mid.lost mid.disk (put slot (Row c) e)
        (former_stage First mid.lost mid.disk (put slot (Row c) e)
        (λ v held. row_of c (λ w. IsIn (mid.disk slot 8) w) was v (subst (λ (l : List Sector). IsIn l v) (put_here slot (Row c) e) held))
        (row e c stage (drawn slot).0)))) (drawn_put slot e c drawn)))
        (λ w.
        let kept = wide.outside members.lost mid.lost slot (caught.more slot) w.1 in
        let caught' = whole_caught scope known left members change live slot role d making ready kept mid caught w.1 in
        let stage' = whole_stage scope known left members change live slot role d making ready kept mid caught w.1 First (put slot (Row c) e) (row e c stage (drawn slot).0)
        (λ v held. (w.0, w.1, row_of c (λ x. IsPlanned First (give_of change.gives slot) (own_in members.own slot) x) w.2 v (subst (λ (l : List Sector). IsIn l v) (put_here slot (Row c) e) held)))
        (over_whole First) in
        made_whole mid.lost c (written-reads scope known left Whole change before live (put slot [] d) (whole_ready scope known left members change live slot role d making ready kept) (put_round slot [] mid) caught'
        slot (put slot (Row c) e)
        (subst (λ (n : Sb). IsRewriting n (replicate 32 Same) Own live mid.lost (put slot [] mid.disk) (put slot (Row c) e)) (sym (first_whole mid.lost members.newest)) stage')
        c (drawn_put slot e c drawn) w.0 w.1
        (subst (λ (n : Sb). IsPlanned n (give_of (replicate 32 Same) slot) (own_in Own slot) (c slot 8)) (sym (first_whole mid.lost members.newest)) (over_whole First slot (c slot 8) w.2))))
        (stage.values slot (c slot 8) (drawn slot).0)
      where
        row : (e : Disk) (c : Contents) → IsRewriting First change.gives members.own live mid.lost mid.disk e → IsIn (e slot 8) (c slot 8)
            → IsRewriting First change.gives members.own live mid.lost mid.disk (put slot (Row c) e)
        row e c stage held = fewer_row First change.gives members.own live mid.lost slot (Row c) mid.disk e (row_of c (λ w. IsIn (e slot 8) w) held) stage

  pub in-first : (e : Disk) (at : IsInFirst members change before live d e) → (c : Contents) → AreDrawn e c → Reads at.mid.lost c
  in-first e at c drawn = stage-reads at.mid at.caught e
      (subst (λ (n : Sb). IsRewriting (first_newest members change before at.mid.lost n) change.gives members.own live at.mid.lost at.mid.disk e) at.caught.newest at.stage.stage) c drawn

  pub catching : (last : ℕ) (e : Disk) → IsRewriting members.newest (replicate 32 Same) members.own live members.lost d e → (c : Contents) → AreDrawn e c → Reads last c
  catching last e stage c drawn = recovering_still last c (before-reads scope members Without before live known left d ready last e c stage drawn)

  -- ---- the rounds that name lost slots

  module _ (first : Round) (past : IsPastFirst members change before live d first) where
    row_in : (c : Contents) (e : Disk) (P : Sector → Type 0) → P (c slot 8) → (v : Sector) → IsIn (put slot (Row c) e slot 8) v → P v
    row_in c e P p v held = row_of c P p v (subst (λ (l : List Sector). IsIn l v) (put_here slot (Row c) e) held)

    -- the first round, of whose values the slot's are planned
    abbrev pub IsNewAlone : Disk → Type 0
    IsNewAlone e = (v : Sector) → IsIn (e slot 8) v → (has_slot live slot ≡ true) × (has_slot past.mid.lost slot ≡ false) × IsPlanned first.newest (give_of change.gives slot) (own_in members.own slot) v

    abbrev pub AreWhole : Disk → Type 0
    AreWhole e = (s : ℕ) (v : Sector) → has_slot live s ≡ true → has_slot first.lost s ≡ false → IsIn (e s 8) v → IsPlanned first.newest (give_of change.gives s) (own_in members.own s) v

    pub kept_first : has_slot past.mid.lost slot ≡ false → has_slot members.lost slot ≡ false
    kept_first none = wide.outside members.lost past.mid.lost slot (past.caught.more slot) none

    pub ready_whole : (none : has_slot past.mid.lost slot ≡ false) → IsReady scope known left Whole Without live (put slot [] d)
    ready_whole none = whole_ready scope known left members change live slot role d making ready (kept_first none)

    caught_whole : (none : has_slot past.mid.lost slot ≡ false) → IsCaughtUpTo members.newest Own live members.lost (put slot [] d) (put_round slot [] past.mid)
    caught_whole none = whole_caught scope known left members change live slot role d making ready (kept_first none) past.mid past.caught none

    stage_whole : (none : has_slot past.mid.lost slot ≡ false) (e : Disk) → IsRewriting first.newest change.gives members.own live past.mid.lost past.mid.disk e → IsNewAlone e
        → IsRewriting first.newest (replicate 32 Same) Own live past.mid.lost (put slot [] past.mid.disk) e
    stage_whole none e stage new = whole_stage scope known left members change live slot role d making ready (kept_first none) past.mid past.caught none first.newest e stage new (over_whole first.newest)

    pub whole-past : (none : has_slot past.mid.lost slot ≡ false) (e : Disk) → IsRewriting first.newest change.gives members.own live past.mid.lost past.mid.disk e → IsNewAlone e → AreWhole e
        → IsPastFirst Whole Without before live (put slot [] d) (record { newest = first.newest; lost = first.lost; disk = e })
    whole-past none e stage new whole = record {
      mid = put_round slot [] past.mid;
      caught = caught_whole none;
      written = record {
        newest = past.written.newest ∙ sym (first_whole past.mid.lost past.mid.newest);
        written = record {
          stage = stage_whole none e stage new;
          whole = λ s v is free held. over_whole first.newest s v (whole s v is free held);
          more = past.written.written.more;
        };
        stage = first_stage first.newest Own live past.mid.lost (put slot [] past.mid.disk) e (stage_whole none e stage new);
        kept = λ s r gone. absurd (no_recovery s r);
      };
    }

    -- each image of it reads as planned
    whole-each : (none : has_slot past.mid.lost slot ≡ false) (e : Disk) → IsRewriting first.newest change.gives members.own live past.mid.lost past.mid.disk e → IsNewAlone e
        → (c : Contents) → AreDrawn e c → IsReadAsPlanned scope Whole Without before live first.lost c
    whole-each none e stage new c drawn =
        let w = new (c slot 8) (drawn slot).0 in
        let eq : first.newest ≡ first_newest Whole Without before past.mid.lost members.newest =
        past.written.newest ∙ ap (first_newest members change before past.mid.lost) past.caught.newest ∙ sym (first_whole past.mid.lost members.newest) in
        planned-wider scope Whole Without before live past.mid.lost first.lost c past.written.written.more
        (written-reads scope known left Whole change before live (put slot [] d) (ready_whole none) (put_round slot [] past.mid) (caught_whole none) slot e
        (subst (λ (n : Sb). IsRewriting n (replicate 32 Same) Own live past.mid.lost (put slot [] past.mid.disk) e) eq (stage_whole none e stage new)) c drawn w.0 w.1
        (subst (λ (n : Sb). IsPlanned n (give_of (replicate 32 Same) slot) (own_in Own slot) (c slot 8)) eq (over_whole first.newest slot (c slot 8) w.2)))

    -- where the slot wasn't lost in it
    pub new_alone : has_slot first.lost slot ≡ false → IsNewAlone first.disk
    new_alone free v held =
        let none = wide.outside past.mid.lost first.lost slot (past.written.written.more slot) free in
        let live_ = slot_live scope known left members change live slot role d making ready (kept_first none) in
        (live_, none, past.written.written.whole slot v live_ free held)

    pub namings_whole : (n : ℕ) (b : Round) → AreNamings (members_at members first) change before live n first b → AreNamings (members_at Whole first) Without before live n first b
    namings_whole n b over = namings_over members change Own (λ t. Unit {0}) (whole_world members change slot role making long) (whole_roles members change slot role making) before live n first first b (λ s none. tt) over

    stage_named : (start : Round) (e : Disk) → IsRewriting (naming members change before start.lost start.newest) change.gives members.own live start.lost start.disk e
        → IsRewriting (naming Whole Without before start.lost start.newest) (replicate 32 Same) Own live start.lost start.disk e
    stage_named start e stage = stage_over members change Own (λ t. Unit {0}) (whole_world members change slot role making long) (whole_roles members change slot role making) before live start e (λ s none. tt) stage

    kept-reads : has_slot first.lost slot ≡ false → (e : Disk) (at : IsInNaming (members_at members first) change before live first e) → members.newest.events + 2 + at.rounds < 2 ^ 62
        → (c : Contents) → AreDrawn e c → Reads at.start.lost c
    kept-reads free e at small c drawn =
        let none = wide.outside past.mid.lost first.lost slot (past.written.written.more slot) free in
        made_whole at.start.lost c (planned-read scope known left Whole change before live (put slot [] d) (ready_whole none) first
        (whole-past none first.disk past.written.written.stage (new_alone free) past.written.written.whole)
        (whole-each none first.disk past.written.written.stage (new_alone free)) e c
        (record { rounds = at.rounds; start = at.start; over = namings_whole at.rounds at.start at.over; stage = stage_named at.start e at.stage }) small drawn)

    -- where it was
    module _ (gone : has_slot first.lost slot ≡ true) where
      apart_of : (s : ℕ) → has_slot first.lost s ≡ false → s ≢ slot
      apart_of s free same = clash gone (subst (λ (t : ℕ). has_slot first.lost t ≡ false) same free)

      pub row_whole : (row : List Sector) → AreWhole (put slot row first.disk)
      row_whole row s v is free held = ⊎_elim (λ here. absurd (apart_of s free here.0)) (λ other. past.written.written.whole s v is free other.1) (in_put slot row first.disk s v held)

      row_stage : (row : List Sector) → ((v : Sector) → IsIn row v → IsIn (first.disk slot 8) v)
          → IsRewriting first.newest change.gives members.own live past.mid.lost past.mid.disk (put slot row first.disk)
      row_stage row fewer = fewer_row first.newest change.gives members.own live past.mid.lost slot row past.mid.disk first.disk fewer past.written.written.stage

      -- with former values of the slot
      pub former-past : (row : List Sector) → ((v : Sector) → IsIn row v → IsIn (first.disk slot 8) v × IsIn (past.mid.disk slot 8) v)
          → IsPastFirst members Without before live d (put_round slot row first)
      former-past row former = record {
        mid = past.mid;
        caught = past.caught;
        written = record {
          newest = past.written.newest ∙ sym (first_other past.mid.lost past.mid.newest);
          written = record {
            stage = stage;
            whole = λ s v is free held. plan_over members change members.own (λ t. t ≢ slot) (other_world members change slot role making) (roles_same members change slot role making) first.newest s v
                (apart_of s free) (row_whole row s v is free held);
            more = past.written.written.more;
          };
          stage = first_stage first.newest members.own live past.mid.lost past.mid.disk (put slot row first.disk) stage;
          kept = λ s r lost. absurd (no_recovery s r);
        };
      }
        where
          stage : IsRewriting first.newest (replicate 32 Same) members.own live past.mid.lost past.mid.disk (put slot row first.disk)
          stage = former_stage first.newest past.mid.lost past.mid.disk (put slot row first.disk)
              (λ v held. (former v (subst (λ (l : List Sector). IsIn l v) (put_here slot row first.disk) held)).1)
              (row_stage row (λ v held. (former v held).0))

      pub former_namings : (row : List Sector) (n : ℕ) (b : Round) → AreNamings (members_at members first) change before live n first b
          → AreNamings (members_at members first) Without before live n (put_round slot row first) (put_round slot row b)
      former_namings row n b over = namings_put (members_at members first) Without before live slot row n first b gone
          (namings_over members change members.own (λ t. t ≢ slot) (other_world members change slot role making) (roles_same members change slot role making) before live n first first b apart_of over)

      -- with what is planned for it
      pub new-past : (row : List Sector) (none : has_slot past.mid.lost slot ≡ false) → ((v : Sector) → IsIn row v → IsIn (first.disk slot 8) v) → IsNewAlone (put slot row first.disk)
          → IsPastFirst Whole Without before live (put slot [] d) (put_round slot row first)
      new-past row none fewer new = whole-past none (put slot row first.disk) (row_stage row fewer) new (row_whole row)

      pub new_namings : (row : List Sector) (n : ℕ) (b : Round) → AreNamings (members_at members first) change before live n first b
          → AreNamings (members_at Whole first) Without before live n (put_round slot row first) (put_round slot row b)
      new_namings row n b over = namings_put (members_at Whole first) Without before live slot row n first b gone (namings_whole n b over)

      abbrev pub IsNew : Sector → Type 0
      IsNew v = (has_slot live slot ≡ true) × (has_slot past.mid.lost slot ≡ false) × IsPlanned first.newest (give_of change.gives slot) (own_in members.own slot) v

      -- a value that it has later it had then: a former one, or what was planned for it
      pub traced : (n : ℕ) (b : Round) → AreNamings (members_at members first) change before live n first b → (v : Sector) → IsIn (b.disk slot 8) v
          → (IsIn (first.disk slot 8) v) × (IsIn (past.mid.disk slot 8) v ⊎ IsNew v)
      traced n b over v held =
          let there = namings_trace (members_at members first) change before live slot n first b gone over v held in
          (there, past.written.written.stage.values slot v there)

      lost-reads : (e : Disk) (at : IsInNaming (members_at members first) change before live first e) → members.newest.events + 2 + at.rounds < 2 ^ 62
          → (c : Contents) → AreDrawn e c → Reads at.start.lost c
      lost-reads e at small c drawn =
          let gone' = namings_more (members_at members first) change before live at.rounds first at.start at.over slot gone in
          let held : IsIn (at.start.disk slot 8) (c slot 8) = ⊎_elim (λ was. was) (λ w. absurd (clash gone' w.1)) (at.stage.values slot (c slot 8) (drawn slot).0) in
          let t = traced at.rounds at.start at.over (c slot 8) held in
          ⊎_elim
          (λ was. recovering_still at.start.lost c (rounds-read scope members Without before live known left d ready (put_round slot (Row c) first) (put slot (Row c) e) c
          (former-past (Row c) (row_of c (λ w. IsIn (first.disk slot 8) w × IsIn (past.mid.disk slot 8) w) (t.0, was)))
          (record {
            rounds = at.rounds;
            start = put_round slot (Row c) at.start;
            over = former_namings (Row c) at.rounds at.start at.over;
            stage = rewriting_put (naming members Without before at.start.lost at.start.newest) (replicate 32 Same) members.own live at.start.lost slot (Row c) at.start.disk e
                (stage_over members change members.own (λ t. t ≢ slot) (other_world members change slot role making) (roles_same members change slot role making) before live at.start e
                (λ s free same. clash gone' (subst (λ (x : ℕ). has_slot at.start.lost x ≡ false) same free)) at.stage);
          }) small (drawn_put slot e c drawn)))
          (λ w. made_whole at.start.lost c (planned-read scope known left Whole change before live (put slot [] d) (ready_whole w.1) (put_round slot (Row c) first)
          (new-past (Row c) w.1 (row_of c (λ x. IsIn (first.disk slot 8) x) t.0) (λ v h. row_in c first.disk IsNew w v h))
          (whole-each w.1 (put slot (Row c) first.disk) (row_stage (Row c) (row_of c (λ x. IsIn (first.disk slot 8) x) t.0)) (λ v h. row_in c first.disk IsNew w v h))
          (put slot (Row c) e) c
          (record {
            rounds = at.rounds;
            start = put_round slot (Row c) at.start;
            over = new_namings (Row c) at.rounds at.start at.over;
            stage = rewriting_put (naming Whole Without before at.start.lost at.start.newest) (replicate 32 Same) Own live at.start.lost slot (Row c) at.start.disk e (stage_named at.start e at.stage);
          }) small (drawn_put slot e c drawn)))
          t.1

    pub in-naming : (e : Disk) (at : IsInNaming (members_at members first) change before live first e) → members.newest.events + 2 + at.rounds < 2 ^ 62 → (c : Contents) → AreDrawn e c → Reads at.start.lost c
    in-naming e at small c drawn = ⊎_elim (λ gone. lost-reads gone e at small c drawn) (λ free. kept-reads free e at small c drawn) (by_bool (has_slot first.lost slot))
