-- The round after one in which the slot that gets a recovery offset was lost in its own write, by what images read.
use Rattle.std.proofs.Common.{◌≡◌, ◌≢◌, inl, inr, ⊎_elim, ℕ, ◌+◌, ◌-◌, ◌^◌, ◌<◌, ◌≤◌, min, true, false, not, ◌&&◌, List, length, replicate, Option, Some, None, refl, sym, ◌∙◌, ap, subst, arith}
use Rattle.sb_read_laws.specs.raid_types_Sectors.{Sector}
use Rattle.sb_read_laws.specs.raid_types_Shapes.{has_slot}
use Rattle.sb_read_laws.specs.sb_codec_the_Sb.{Sb}
use Rattle.sb_read_laws.specs.bank_Tape.{Contents, IsIn}
use Rattle.sb_read_laws.specs.sb_specs_the_Give.{Give}
use Rattle.sb_read_laws.specs.sb_specs_the_Give_TheVariants.{Same}
use Rattle.sb_read_laws.specs.sb_specs_the_Change.{Change}
use Rattle.sb_read_laws.specs.sb_specs_the_Members.{Members}
use Rattle.sb_read_laws.specs.sb_specs_Reading.{Scope}
use Rattle.sb_read_laws.specs.sb_specs_Update.{planned, give_of, own_in, is_recovery}
use Rattle.sb_read_laws.specs.sb_specs_Writing.{IsFirstSector, IsPlanned}
use Rattle.sb_read_laws.specs.sb_specs_Updating.{planned_newest, IsLater}
use Rattle.sb_read_laws.specs.sb_specs_Reads.{held_in}
use Rattle.sb_read_laws.specs.sb_specs_Held.{AreDrawn, MayRead, IsStamped, AreHeld, AreLevel}
use Rattle.sb_read_laws.specs.sb_specs_Stages.{AreLeft, IsTaking, AreTaken, IsFitPlan, AreKept}
use Rattle.sb_read_laws.specs.sb_specs_Plans.{KeepsRecovery, IsFitChange}
use Rattle.sb_read_laws.specs.sb_specs_Rounds.{Round, naming, first_newest, IsRewriting, IsRewritten, IsCaughtUpTo, IsReadInUpdate, IsReady}
use Rattle.sb_read_laws.specs.sb_specs_Crash.{IsRoundEnd}
use Rattle.sb_read_laws.specs.sb_specs_Losing.{IsLosing, IsTakingWithout, IsLost, IsNamingAfter}
use Rattle.sb_read_laws.proofs.sb_specs_Exact.{all_same}
use Rattle.sb_read_laws.proofs.sb_specs_PlannedSb.{planned-of}
use Rattle.sb_read_laws.proofs.PlannedAgain.{planned-again}
use Rattle.sb_read_laws.proofs.PlanFits.{IsNext, length-any, idle-number, next-fits}
use Rattle.sb_read_laws.proofs.StageReads.{new_of, taken-held, taken-level}
use Rattle.sb_read_laws.proofs.RoundReads.{IsAt, left_set, left-are, and_first, and_second, planned_list, planned-in, kept-of, wider}
use Rattle.sb_update_laws.proofs.AddedReads.{put, put_is, put_ninth, in_put}
use Rattle.sb_update_laws.proofs.LosingReads.{narrow}
use Rattle.sb_update_laws.proofs.AfterLosing.{after-reads, after-end}
use Rattle.sb_update_laws.proofs.Wide as wide
use Rattle.sb_update_laws.proofs.Lost as lost

abbrev Disk : Type 0
Disk = ℕ → ℕ → List Sector

one_more : (n m k : ℕ) → m < 2 ^ 62 → k ≡ m + 1 → n ≡ min (k + 1) (2 ^ 64 - 1) → n ≡ m + 2
one_more n m k h e e' = omega (arith, h, e, e')

module _ (scope : Scope) (members : Members) (change : Change) (before live known left0 : ℕ) (d : Disk) (ready : IsReady scope known left0 members change live d)
    (mid : Round) (caught : IsCaughtUpTo members.newest members.own live members.lost d mid) (gone slot : ℕ) (more : (s : ℕ) → has_slot mid.lost s ≡ true → has_slot gone s ≡ true)
    (only : (s : ℕ) → s ≢ slot → has_slot gone s ≡ true → has_slot mid.lost s ≡ true) (is_gone : has_slot gone slot ≡ true) (was : has_slot mid.lost slot ≡ false)
    (recovery : is_recovery (give_of change.gives slot) ≡ true) where
  abbrev Newest : Sb
  Newest = first_newest members change before mid.lost members.newest

  abbrev Named : Sb
  Named = first_newest members change before gone members.newest

  abbrev Left : ℕ
  Left = left_set scope.sizes.slots live mid.lost

  abbrev Rest : ℕ
  Rest = left_set scope.sizes.slots live gone

  abbrev left_own : List (Option Sb)
  left_own = planned_list Newest change.gives members.own

  abbrev rest_own : List (Option Sb)
  rest_own = planned_list Named change.gives members.own

  abbrev losing : IsLosing scope known mid.lost gone Left Rest slot members.newest Newest Named change.gives members.own left_own rest_own mid.disk
  losing = lost.losing scope members change before live known left0 d ready mid caught gone slot more only is_gone was recovery

  abbrev base : AreHeld scope known gone members.newest members.own mid.disk
  base = wide.held scope members change before live known left0 d ready mid caught gone more

  sub_rest : (s : ℕ) → has_slot Rest s ≡ true → has_slot known s ≡ true
  sub_rest = wide.sub scope members change before live known left0 d ready mid caught gone more

  abbrev level_rest : AreLevel scope Rest members.newest mid.disk
  level_rest = wide.level scope members change before live known left0 d ready mid caught gone more

  abbrev fit_rest : IsFitPlan scope gone members.newest Named change.gives members.own Rest mid.disk
  fit_rest = wide.fit scope members change before live known left0 d ready mid caught gone more

  abbrev kept_rest : AreKept Named change.gives members.own Rest rest_own
  kept_rest = wide.kept scope members change before live known left0 d ready mid caught gone more

  -- no slot that is left gets a recovery offset
  still_rest : (s : ℕ) → has_slot Rest s ≡ true → is_recovery (give_of change.gives s) ≡ true → ⊥
  still_rest s is r = lost.one_recovery scope members change before live known left0 d ready mid caught gone slot more only is_gone was recovery s
      (lost.rest_apart scope members change before live known left0 d ready mid caught gone slot more only is_gone was recovery s is)
      (wide.left_live scope members change before live known left0 d ready mid caught gone more s is)
      (wide.outside mid.lost gone s (more s) (wide.left_kept scope members change before live known left0 d ready mid caught gone more s is)) r

  -- ---- after the first round

  module _ (l : ℕ) (m : Disk) (stage : IsTakingWithout Newest Named change.gives members.own Rest slot mid.disk m)
      (whole : (s : ℕ) (v : Sector) → has_slot live s ≡ true → has_slot l s ≡ false → IsIn (m s 8) v → IsPlanned Named (give_of change.gives s) (own_in members.own s) v)
      (grown : (s : ℕ) → has_slot gone s ≡ true → has_slot l s ≡ true) (some : (s : ℕ) × (has_slot live s ≡ true) × (has_slot l s ≡ false)) where
    abbrev Taken : ℕ
    Taken = left_set scope.sizes.slots live l

    more_l : (s : ℕ) → has_slot mid.lost s ≡ true → has_slot l s ≡ true
    more_l s is = grown s (more s is)

    taken_live : (s : ℕ) → has_slot Taken s ≡ true → has_slot live s ≡ true
    taken_live = wide.left_live scope members change before live known left0 d ready mid caught l more_l

    taken_kept : (s : ℕ) → has_slot Taken s ≡ true → has_slot l s ≡ false
    taken_kept = wide.left_kept scope members change before live known left0 d ready mid caught l more_l

    taken_is : (s : ℕ) → has_slot live s ≡ true → has_slot l s ≡ false → has_slot Taken s ≡ true
    taken_is = wide.is_left scope members change before live known left0 d ready mid caught l more_l

    taken_rest : (s : ℕ) → has_slot Taken s ≡ true → has_slot Rest s ≡ true
    taken_rest s is = wide.is_left scope members change before live known left0 d ready mid caught gone more s (taken_live s is) (wide.outside gone l s (grown s) (taken_kept s is))

    all_taken : AreTaken Named change.gives members.own Taken m
    all_taken s v is is_in = whole s v (taken_live s is) (taken_kept s is) is_in

    some_taken : (s : ℕ) × (has_slot Taken s ≡ true)
    some_taken = (some.0, taken_is some.0 some.1 some.2)

    over : IsLost Rest gone l Taken slot Newest Named change.gives members.own mid.disk m
    over = record { stage = stage; whole = all_taken; some = some_taken; within = taken_rest; more = grown }

    -- with the slot's former sector
    abbrev Mid : Disk
    Mid = put slot (mid.disk slot 8) m

    stage_mid : IsTaking Named change.gives members.own Rest mid.disk Mid
    stage_mid = narrow scope known mid.lost gone Left Rest slot members.newest Newest Named change.gives members.own left_own rest_own mid.disk losing m stage

    whole_mid : AreTaken Named change.gives members.own Taken Mid
    whole_mid s v is is_in = ⊎_elim
        (λ here. absurd (lost.rest_apart scope members change before live known left0 d ready mid caught gone slot more only is_gone was recovery s (taken_rest s is) here.0))
        (λ other. all_taken s v is other.1) (in_put slot (mid.disk slot 8) m s v is_in)

    first_mid : (s : ℕ) → has_slot Rest s ≡ true → is_recovery (give_of change.gives s) ≡ true → has_slot Taken s ≡ true
    first_mid s is r = absurd (still_rest s is r)

    mid_held : AreHeld scope Rest l Named rest_own Mid
    mid_held = taken-held scope known gone members.newest members.own mid.disk base Rest sub_rest level_rest Named change.gives fit_rest rest_own kept_rest Mid stage_mid Taken l whole_mid some_taken taken_rest first_mid grown

    mid_level : AreLevel scope Taken Named Mid
    mid_level = taken-level scope known gone members.newest members.own mid.disk base Rest sub_rest level_rest Named change.gives fit_rest rest_own kept_rest Mid stage_mid Taken l whole_mid some_taken taken_rest first_mid grown

    -- ---- what the next round plans

    abbrev Next : Sb
    Next = naming members change before l Named

    abbrev next_own : List (Option Sb)
    next_own = planned_list Next change.gives members.own

    fits : IsFitChange Rest l Taken members change
    fits =
        let f = wide.fits scope members change before live known left0 d ready mid caught l more_l in
        record {
          role = f.role;
          below = f.below;
          spare = f.spare;
          one_holder = f.one_holder;
          fields = f.fields;
          size = f.size;
          written = λ s is none. taken_is s (wide.left_live scope members change before live known left0 d ready mid caught gone more s is) none;
          devices = f.devices;
          one = f.one;
        }

    module _ (small : members.newest.events + 2 < 2 ^ 62) where
      events : Next.events ≡ members.newest.events + 2
      events = one_more Next.events members.newest.events Named.events (omega (arith, small)) fit_rest.later refl

      is_next : IsNext members change before l Named Next
      is_next = record {
        roles = refl;
        room = refl;
        later = omega (arith, events, fit_rest.later);
        size = refl;
        fields = ready.fields Next.events (omega (arith, events, small));
        count = refl;
      }

      own_is : (s : ℕ) (sb : Sb) → own_in members.own s ≡ Some sb → own_in rest_own s ≡ Some (planned Named (give_of change.gives s) sb)
      own_is s sb is = planned-in Named change.gives members.own s sb is

      own_next : (s : ℕ) (sb : Sb) → own_in members.own s ≡ Some sb → own_in next_own s ≡ Some (planned Next (give_of change.gives s) sb)
      own_next s sb is = planned-in Next change.gives members.own s sb is

      own_was : (s : ℕ) → has_slot Taken s ≡ true → (sb : Sb) × (own_in members.own s ≡ Some sb)
      own_was s is = let k = base.each s (sub_rest s (taken_rest s is)) in (k.sb, k.own)

      one_device : (t : ℕ) (sb z : Sb) → has_slot Taken t ≡ true → own_in members.own t ≡ Some sb → own_in rest_own t ≡ Some z → z.dev_number ≡ sb.dev_number
      one_device t sb z is was_ is_ =
          let same : z ≡ planned Named (give_of change.gives t) sb = (let both : Some z ≡ Some (planned Named (give_of change.gives t) sb) = sym is_ ∙ own_is t sb was_ in cc) in
          ap (λ (y : Sb). y.dev_number) same ∙ (planned-of Named sb (give_of change.gives t)).number

      fit : IsFitPlan scope l Named Next (replicate 32 Same) rest_own Taken Mid
      fit = next-fits scope Rest l Taken before members change Named Next rest_own Mid mid_held taken_rest fits is_next one_device
          (replicate 32 Same) (λ s sb is own_is_. subst (λ (g : Give). KeepsRecovery g sb) (sym (all_same 32 s)) tt)
          (λ s t is is' r r'. absurd (let none : false ≡ true = sym (ap is_recovery (all_same 32 s)) ∙ r in cc))

      long : 128 ≤ length Named.dev_roles
      long = omega (arith, fit_rest.table)

      -- what is planned for a slot, of what it has
      again : (s : ℕ) (sb : Sb) → planned Next (give_of (replicate 32 Same) s) (planned Named (give_of change.gives s) sb) ≡ planned Next (give_of change.gives s) sb
      again s sb = ap (λ (g : Give). planned Next g (planned Named (give_of change.gives s) sb)) (all_same 32 s) ∙ planned-again Named Next sb (give_of change.gives s) long

      kept : AreKept Next (replicate 32 Same) rest_own Taken next_own
      kept s z is own_z =
          let o = own_was s is in
          let same : planned Named (give_of change.gives s) o.0 ≡ z = (let both : Some (planned Named (give_of change.gives s) o.0) ≡ Some z = sym (own_is s o.0 o.1) ∙ own_z in cc) in
          let p : Sb = planned Next (give_of change.gives s) o.0 in
          let eq : p ≡ planned Next (give_of (replicate 32 Same) s) z = sym (again s o.0) ∙ ap (planned Next (give_of (replicate 32 Same) s)) same in
          (p.sb_csum, own_next s o.0 o.1 ∙ ap (λ (y : Sb). Some (record y { sb_csum = p.sb_csum })) eq)

      faulty : (sb : Sb) (role : ℕ) → own_in members.own slot ≡ Some sb → role < 16 → held_in Next role slot (Some (planned Newest (give_of change.gives slot) sb)) ≡ None
      faulty sb role is h =
          let number = (planned-of Newest sb (give_of change.gives slot)).number in
          idle-number scope Rest l l Taken Taken before members change Named Next rest_own Mid mid_held fits is_next
          (lost.all-scoped scope Rest l Taken members change Named rest_own Mid mid_held taken_rest one_device)
          slot (planned Newest (give_of change.gives slot) sb)
          (subst (λ (k : ℕ). k < 128) (sym number) (lost.number_below scope members change before live known left0 d ready mid caught gone slot more only is_gone was recovery sb is))
          (λ s r z planned_ is_ own_z same. lost.number_apart scope members change before live known left0 d ready mid caught gone slot more only is_gone was recovery s z sb (taken_rest s is_) own_z is (same ∙ number)) role h

      after : IsNamingAfter scope l Taken Taken slot Newest Named Next change.gives (replicate 32 Same) members.own rest_own next_own mid.disk m
      after = record {
        within = λ s is. is;
        fit = subst (IsFitPlan scope l Named Next (replicate 32 Same) rest_own Taken) (sym (put_is slot mid.disk m)) fit;
        kept = kept;
        none = λ s is. ap is_recovery (all_same 32 s);
        faulty = faulty;
      }

      -- a round that writes the one planned superblock writes the other
      plan_again : (s : ℕ) (v : Sector) → has_slot Taken s ≡ true → IsPlanned Next (give_of change.gives s) (own_in members.own s) v → IsPlanned Next (give_of (replicate 32 Same) s) (own_in rest_own s) v
      plan_again s v is plan =
          let o = own_was s is in
          let first : IsFirstSector (planned Next (give_of change.gives s) o.0) v = subst (λ (h : Option Sb). IsPlanned Next (give_of change.gives s) h v) o.1 plan in
          subst (λ (h : Option Sb). IsPlanned Next (give_of (replicate 32 Same) s) h v) (sym (own_is s o.0 o.1)) (subst (λ (p : Sb). IsFirstSector p v) (sym (again s o.0)) first)

      stage_again : (e : Disk) → IsRewriting Next change.gives members.own live l m e → IsTaking Next (replicate 32 Same) rest_own Taken m e
      stage_again e next = record {
        values = λ s v is_in. ⊎_elim (λ former. inl former)
            (λ w. let is = taken_is s w.0 w.1 in inr (is, plan_again s v is w.2))
            (next.values s v is_in);
        order = inr (λ s v is r is_in. absurd (let none : false ≡ true = sym (ap is_recovery (all_same 32 s)) ∙ r in cc));
        ninth = next.ninth;
      }

      later : IsLater (planned_newest change.shared members.newest) Next
      later = record { events = omega (arith, events, fit_rest.later); same = refl }

      taken_are : AreLeft live l Taken
      taken_are = wide.are scope members change before live known left0 d ready mid caught l more_l

      lost_more : (s : ℕ) → has_slot members.lost s ≡ true → has_slot l s ≡ true
      lost_more s is = more_l s (caught.more s is)

      pub again-reads : (e : Disk) (c : Contents) → IsRewriting Next change.gives members.own live l m e → AreDrawn e c → IsReadInUpdate scope known members change before live l c
      again-reads e c next drawn = ⊎_elim
          (λ r. wider scope known members change before live gone l c grown (lost.read_planned scope members change before live known left0 d ready mid caught gone slot more only is_gone was recovery l c r))
          (λ new. ⊎_elim
          (λ r. wider scope known members change before live gone l c grown (lost.read_named scope members change before live known left0 d ready mid caught gone slot more only is_gone was recovery l c r))
          (λ r. inr (record {
            newest = Next;
            named = l;
            lost = l;
            left = Taken;
            own = next_own;
            are = taken_are;
            more = lost_more;
            within = λ s is. is;
            later = later;
            plan = (Named.dev_roles, refl);
            table = length-any members change before l Named.dev_roles ∙ length-any members change before gone members.newest.dev_roles ∙ ready.held.table;
            kept = kept-of Next change.gives members.own next_own Taken (λ s sb is own_sb. own_next s sb own_sb);
            reads = r;
          }))
          new)
          (after-reads scope known mid.lost gone l Left Rest Taken Taken slot members.newest Newest Named Next change.gives (replicate 32 Same) members.own left_own rest_own next_own mid.disk m
          losing over after e (stage_again e next) c drawn)

      module _ (l' : ℕ) (e : Disk) (written : IsRewritten Next change.gives members.own live l l' m e) (some' : (s : ℕ) × (has_slot live s ≡ true) × (has_slot l' s ≡ false)) where
        abbrev Last : ℕ
        Last = left_set scope.sizes.slots live l'

        last_is : (s : ℕ) → has_slot live s ≡ true → has_slot l' s ≡ false → has_slot Last s ≡ true
        last_is s is none = left-are scope.sizes.slots live l' (wide.there scope members change before live known left0 d ready) s ∙ (λ i. is i && not (none i))

        last_live : (s : ℕ) → has_slot Last s ≡ true → has_slot live s ≡ true
        last_live s is = and_first (has_slot live s) (has_slot l' s) (sym (left-are scope.sizes.slots live l' (wide.there scope members change before live known left0 d ready) s) ∙ is)

        last_kept : (s : ℕ) → has_slot Last s ≡ true → has_slot l' s ≡ false
        last_kept s is = and_second (has_slot live s) (has_slot l' s) (sym (left-are scope.sizes.slots live l' (wide.there scope members change before live known left0 d ready) s) ∙ is)

        last_taken : (s : ℕ) → has_slot Last s ≡ true → has_slot Taken s ≡ true
        last_taken s is = taken_is s (last_live s is) (wide.outside l l' s (written.more s) (last_kept s is))

        whole_again : AreTaken Next (replicate 32 Same) rest_own Last e
        whole_again s v is is_in = plan_again s v (last_taken s is) (written.whole s v (last_live s is) (last_kept s is) is_in)

        round_end : IsRoundEnd l l' Taken Last Next (replicate 32 Same) rest_own m e
        round_end = record {
          stage = stage_again e written.stage;
          whole = whole_again;
          some = (some'.0, last_is some'.0 some'.1 some'.2);
          within = last_taken;
          first = λ s is r. absurd (let none : false ≡ true = sym (ap is_recovery (all_same 32 s)) ∙ r in cc);
          more = written.more;
        }

        ends : AreHeld scope Taken l' Next next_own e × AreLevel scope Last Next e
        ends = after-end scope known mid.lost gone l Left Rest Taken Taken slot members.newest Newest Named Next change.gives (replicate 32 Same) members.own left_own rest_own next_own mid.disk m
            losing over after e l' Last round_end

        exact : (s : ℕ) (sb : Sb) (found : Option Sb) → has_slot live s ≡ true → has_slot l' s ≡ false → own_in next_own s ≡ Some sb → MayRead scope e s found → IsStamped sb found
        exact s sb found is none own_sb v =
            let in_last = last_is s is none in
            let t = last_taken s in_last in
            let o = own_was s t in
            let k = mid_held.each s (taken_rest s t) in
            let new = new_of scope Rest l Named rest_own Mid mid_held Taken taken_rest mid_level Next (replicate 32 Same) fit next_own kept s t v.at (whole_again s (v.at 8) in_last v.eighth)
            (subst (λ (x : List Sector). IsIn x (v.at 9)) (sym (put_ninth slot (mid.disk slot 8) m s)) (written.stage.ninth s (v.at 9) v.ninth)) in
            let first : planned Named (give_of change.gives s) o.0 ≡ k.sb = (let both : Some (planned Named (give_of change.gives s) o.0) ≡ Some k.sb = sym (own_is s o.0 o.1) ∙ k.own in cc) in
            let last : planned Next (give_of change.gives s) o.0 ≡ sb = (let both : Some (planned Next (give_of change.gives s) o.0) ≡ Some sb = sym (own_next s o.0 o.1) ∙ own_sb in cc) in
            let eq : planned Next (give_of (replicate 32 Same) s) k.sb ≡ sb = ap (planned Next (give_of (replicate 32 Same) s)) (sym first) ∙ again s o.0 ∙ last in
            subst (λ (z : Sb). IsStamped z found) eq (subst (λ (x : Option Sb). IsStamped (planned Next (give_of (replicate 32 Same) s) k.sb) x) v.is new)

        pub again-end : IsAt scope members change before live (λ s. ⊥) 1 (record { newest = Next; lost = l'; disk = e })
        again-end = record {
          known = Taken;
          named = l;
          gone = l;
          own = next_own;
          held = ends.0;
          level = λ s found is none v. ends.1 s found (last_is s is none) v;
          exact = exact;
          are = taken_are;
          more = lost_more;
          named_gone = λ s is. is;
          unnamed = λ s is. inl is;
          grown = written.more;
          later = later;
          plan = (Named.dev_roles, refl);
          own_is = λ s sb is own_sb. own_next s sb own_sb;
          own_was = own_was;
          events = omega (arith, events);
        }
