-- The slot that recovers a role, which has every row of it, becomes its whole holder.
use Rattle.std.proofs.Common.{◌≡◌, ◌≢◌, ◌⊎◌, inl, inr, ⊎_elim, ℕ, ◌+◌, ◌<◌, ◌==◌, ◌||◌, ◌&&◌, Bool, true, false, not, cond, nat_lt, take, take_all, le_refl, List, [], ◌∷◌, length, get_or, Option, Some, None, refl, sym, ◌∙◌, ap, subst, arith}
use Rattle.std.specs.Prelude.{⊤}
use Rattle.std.specs.List.{list_any}
use Rattle.std.proofs.lemmas.Bool.{cases_eq}
use Rattle.std.proofs.lemmas.Bool.Decides.{nat_tests}
use Rattle.raid_layout.specs.raid_types_Sectors.{Sector}
use Rattle.raid_layout.specs.raid_types_Shapes.{has_slot}
use Rattle.raid_layout.specs.raid_types_the_Role.{Role}
use Rattle.raid_layout.specs.raid_types_the_Role_TheVariants.{Whole, Recovering, Missing}
use Rattle.raid_layout.specs.Layout.{place}
use Rattle.sb_update.specs.sb_codec_the_Sb.{Sb}
use Rattle.sb_update.specs.bank_the_Operation.{Operation}
use Rattle.sb_update.specs.bank_Given.{Given}
use Rattle.sb_update.specs.bank_Tape.{Contents, IsIn, IsDrawn, disk, value_after}
use Rattle.sb_update.proofs.bank_Laws.{choices-present}
use Rattle.sb_update.specs.sb_specs_the_Change.{Change}
use Rattle.sb_update.specs.sb_specs_the_Members.{Members}
use Rattle.sb_update.specs.sb_specs_Reading.{Scope, is_reshaping, is_whole, shape_of, role_count, role_state, rows_held, holder, data_offset_of}
use Rattle.sb_update.specs.sb_specs_Reads.{has_spare}
use Rattle.sb_update.specs.sb_specs_Update.{own_in, is_held_by}
use Rattle.sb_update.specs.sb_specs_Crash.{IsWithin}
use Rattle.sb_update.specs.sb_specs_Held.{known_of}
use Rattle.array_members.proofs.sb_read_laws_SaidSlots.{role-said, role-known}
use Rattle.array_members.specs.sb_update_laws_MakingWhole.{without_gives, IsMakingWhole}
use Rattle.array_members.specs.stripe_row_Rows.{reading_of, present, held_slot, role_without, members_without}
use Rattle.array_members.proofs.stripe_row_Losses.{holder-of, state_kept, state_after}
use Rattle.array_members.specs.stripe_list_Full.{RowStands, full_sector}
use Rattle.array_members.proofs.stripe_list_FullLaws.{places-are-full, standing-is-full}
use Rattle.array_members.specs.Placed.{IsPlaced}
use Rattle.array_members.specs.crash_safety_laws_Steady.{AreUnlost, IsSteady, AreGoneTold, AreWritesAllowed, given_back}
use Rattle.array_members.specs.crash_safety_laws_Held.{IsHeldBy}
use Rattle.array_members.specs.Lacking.{RowsStand}
use Rattle.array_members.specs.crash_safety_laws_Marking.{giving}
use Rattle.array_members.specs.Rebuilding.{IsFlushedFull}
use Rattle.array_members.specs.crash_views_Regions.{ArePlaced, DoWithout}
use Rattle.array_members.specs.crash_views_Views.{Ledger, IsSettled, IsViewRight}
use Rattle.array_members.proofs.Still.{untailed, length-still, settled-still, still-settled}
use Rattle.array_members.specs.Flushing.{AreHolders}
use Rattle.array_members.proofs.Fit.{valid, disks-within}
use Rattle.array_members.proofs.MarkLaws.{roles-kept, role_from-found, held-holder, holder-held}
use Rattle.array_members.proofs.crash_safety_laws_Kept.{give_of-same, still-missing, kept-less}
use Rattle.array_members.proofs.crash_safety_laws_Without.{state-without, any-held}
use Rattle.array_members.proofs.Gives.{give-here, give-other}
use Rattle.sb_safe_updates.proofs.GivenPlan.{given-state, given-less}
use Rattle.array_members.proofs.GivenMembers.{IsReceiver, W, state-here, state-other, holder-then, offset-same, rows-other, placed-given}
use Rattle.array_members.specs.crash_safety_laws_Updates.{planned_view, IsLessView}
use Rattle.array_members.specs.crash_safety_laws_Changing.{IsChanged}
use Rattle.array_members.specs.crash_role_laws_Making.{IsMakable}
use Rattle.array_members.proofs.crash_safety_laws_ChangeViews.{placed-less}
use Rattle.array_members.proofs.crash_safety_laws_KeptSafe.{planned-fits, planned-backup, told-plan, steady-right}
use Rattle.array_members.proofs.crash_safety_laws_LessViews.{less-right}
use Rattle.array_members.proofs.crash_safety_laws_PlannedRoles.{count-planned}
use Rattle.array_members.proofs.crash_safety_laws_UpdateViews.{said-recovering}
use Rattle.sb_safe_updates.proofs.MissingLaws.{missing-more}
use Rattle.sb_safe_updates.proofs.StillHeld.{AreRowsAllowed, held-still, still-held}

-- a role of the shape is one of the array's
pub role-within : (given : Given) (m : Members) → IsPlaced given m → (role : ℕ) → role < (shape_of m.newest).disks → role < length m.roles
role-within given m placed role below = let within = disks-within given m placed (shape_of m.newest) (inl refl) in omega (arith, below, within)

-- the slot that recovers a role may become its holder
pub holder-receives : (given : Given) (m : Members) (role slot : ℕ) → IsPlaced given m → AreUnlost m → role < (shape_of m.newest).disks → role_state (reading_of m) role ≡ Recovering slot → IsReceiver given m role slot
holder-receives given m role slot placed unlost below is = record {
  room = placed.holders role slot held;
  behind = placed.behind role slot held;
  member = placed.live slot live;
  live = live;
  only = λ r holds. placed.apart r role slot holds held;
  others = λ s holds. let same : ◌≡◌ {A = Option ℕ} (Some slot) (Some s) = sym held ∙ holds in (let it : s ≡ slot = cc in it);
  unlost = unlost role slot held;
  below = role-within given m placed role below;
}
  where
    held : holder (role_state (reading_of m) role) ≡ Some slot
    held = ap holder is

    live : (list_any (is_held_by slot) m.roles || has_spare m.spares slot) ≡ true
    live = ap (λ (b : Bool). b || has_spare m.spares slot) (any-held slot m.roles role held)

-- ---- the view in which the role is whole

-- what the slots hold now may be drawn
present-drawn : (given : Given) (tape : List Operation) → IsDrawn (disk given.start tape) (present given tape)
present-drawn given tape s k = of (disk given.start tape s k) first
  where
    first : take 1 (disk given.start tape s k) ≡ present given tape s k ∷ []
    first = choices-present s k (given.start s k) [] tape
        ∙ ap (λ (l : List Operation). value_after s k (given.start s k) l ∷ []) (sym (take_all (length tape) tape (le_refl (length tape))))

    of : (values : List Sector) → take 1 values ≡ present given tape s k ∷ [] → IsIn values (present given tape s k)
    of [] e = absurd (cc)
    of (v ∷ values) e = inl (let same : v ≡ present given tape s k = cc in sym same)

module _ (given : Given) (m : Members) (placed : IsPlaced given m) (still : is_reshaping m.newest ≡ false) (role slot : ℕ) (to : IsReceiver given m role slot) (recovers : role_state (reading_of m) role ≡ Recovering slot) where
  abbrev Whole_ : Members
  Whole_ = W given m placed None role slot to

  -- a row that a slot holds then it held before, or it is the slot's, of the role
  held-then : (r row s : ℕ) → held_slot (reading_of Whole_) r row ≡ Some s → ((r ≡ role) × (s ≡ slot) × (row < m.newest.size)) ⊎ (held_slot (reading_of m) r row ≡ Some s)
  held-then r row s held = ⊎_elim
      (λ here. inl (
        here.0,
        here.1,
        within (sym (ap (λ (k : ℕ). held_slot (reading_of Whole_) k row) here.0
            ∙ ap (λ (state : Role). cond (nat_lt row (rows_held (reading_of Whole_) state)) (holder state) None) (state-here given m placed None role slot to)) ∙ held),
      ))
      (λ other. inr (
      sym (ap (λ (state : Role). cond (nat_lt row (rows_held (reading_of Whole_) state)) (holder state) None) (state-other given m placed None role slot to r other.0)
      ∙ ap (λ (n : ℕ). cond (nat_lt row n) (holder (role_state (reading_of m) r)) None) (rows-other given m placed None role slot to s (role_state (reading_of m) r) other.2 other.1))
      ∙ held))
      (holder-then given m placed None role slot to r s (holder-of (reading_of Whole_) r row s held))
    where
      within : cond (nat_lt row m.newest.size) (Some slot) None ≡ Some s → row < m.newest.size
      within e = of (nat_lt row m.newest.size) refl e
        where
          below : (a b : ℕ) → nat_lt a b ≡ true → a < b
          below a b is = grind (arith, nat_tests, is)

          of : (b : Bool) → nat_lt row m.newest.size ≡ b → cond b (Some slot) None ≡ Some s → row < m.newest.size
          of true is e = below row m.newest.size is
          of false is e = absurd (cc)

  -- what the slot may hold of the role, where this alone is flushed
  alone-is : (d : ℕ → ℕ → List Sector) (list : ℕ → Sector) → IsFlushedFull m role slot list d → (row : ℕ) → row < m.newest.size → (v : Sector) → IsIn (d slot (data_offset_of (reading_of Whole_) slot + row)) v
      → v ≡ full_sector (shape_of m.newest) list row role
  alone-is d list full row lt v may = only (subst (λ (l : List Sector). IsIn l v) (ap (λ (n : ℕ). d slot (n + row)) (offset-same given m placed None role slot to slot) ∙ full row lt) may)
    where
      only : (v ≡ full_sector (shape_of m.newest) list row role) ⊎ ⊥ → v ≡ full_sector (shape_of m.newest) list row role
      only (inl same) = same
      only (inr none) = absurd none

  -- it stands where the members do
  whole-placed : (scope : Scope) → ArePlaced scope given m → ArePlaced scope given (W given m placed None role slot to)
  whole-placed scope right = record {
    fit = right.fit;
    roles = new.roles;
    holders = new.holders;
    behind = new.behind;
    members_own = λ r s held. ⊎_elim
        (λ here. right.members_own role s (ap holder recovers ∙ ap (λ (n : ℕ). Some n) (sym here.1)))
        (λ other. right.members_own r s other.2) (holder-then given m placed None role slot to r s held);
    apart = new.apart;
    backup = right.backup;
  }
    where
      new : IsPlaced given (W given m placed None role slot to)
      new = placed-given given m placed None role slot to

  module _ (sound : Type 0) (scope : Scope) (told : Ledger) (tape : List Operation) (list : ℕ → Sector) (premise : sound) (does : DoWithout m) (below : role < (shape_of m.newest).disks)
      (stands : RowsStand m (present given tape) list) (allowed : AreWritesAllowed m told.values list) (full : IsFlushedFull m role slot list (disk given.start tape)) where
    -- each row stands as the list, whatever is drawn
    abbrev AreRowsSettled : Members → (ℕ → Sector) → Type 0
    AreRowsSettled n list' = (c : Contents) → IsDrawn (disk given.start tape) c → (row : ℕ) → row < n.newest.size → RowStands (reading_of n) c (shape_of n.newest) list' row

    -- two lists as which the rows stand have the same full rows
    full-alike : (list' : ℕ → Sector) → AreRowsSettled m list' → (row : ℕ) → row < m.newest.size → full_sector (shape_of m.newest) list row role ≡ full_sector (shape_of m.newest) list' row role
    full-alike list' settled row lt =
        sym (standing-is-full (reading_of m) (present given tape) (shape_of m.newest) list row (valid given m placed) lt does.old (stands row lt) role below)
        ∙ standing-is-full (reading_of m) (present given tape) (shape_of m.newest) list' row (valid given m placed) lt does.old (settled (present given tape) (present-drawn given tape) row lt) role below

    -- what the slot has of the role is allowed
    rows-allowed : AreRowsAllowed (reading_of m) told.values (disk given.start tape) → AreRowsAllowed (reading_of Whole_) told.values (disk given.start tape)
    rows-allowed held x s lt holds v may = ⊎_elim
        (λ here. subst (IsIn (told.values x)) (sym (
        alone-is (disk given.start tape) list full (place (shape_of m.newest) x).row here.2 v
        (subst (λ (t : ℕ). IsIn (disk given.start tape t (data_offset_of (reading_of Whole_) t + (place (shape_of m.newest) x).row)) v) here.1 may)
        ∙ ap (λ (r : ℕ). full_sector (shape_of m.newest) list (place (shape_of m.newest) x).row r) (sym here.0)
        ∙ places-are-full (shape_of m.newest) list x (valid given m placed))) (allowed x (subst (λ (n : ℕ). x < n) (sym (length-still m still)) lt)))
        (λ was. held x s lt was v
        (subst (λ (n : ℕ). IsIn (disk given.start tape s (n + (place (shape_of m.newest) x).row)) v) (offset-same given m placed None role slot to s) may))
        (held-then (place (shape_of m.newest) x).role (place (shape_of m.newest) x).row s holds)

    rows-settled : (list' : ℕ → Sector) → AreRowsSettled m list' → AreRowsSettled (W given m placed None role slot to) list'
    rows-settled list' settled c drawn row lt =
        let stood = settled c drawn row lt in
        record {
          whole = stood.whole;
          sectors = λ r s below part held. ⊎_elim (λ here. new r s here.0 here.1) (λ was. at s ∙ stood.sectors r s below part was) (held-then r row s held);
          parity = λ r s below part held. ⊎_elim (λ here. new r s here.0 here.1) (λ was. at s ∙ stood.parity r s below part was) (held-then r row s held);
        }
      where
        at : (s : ℕ) → c s (data_offset_of (reading_of Whole_) s + row) ≡ c s (data_offset_of (reading_of m) s + row)
        at s = ap (λ (n : ℕ). c s (n + row)) (offset-same given m placed None role slot to s)

        new : (r s : ℕ) → r ≡ role → s ≡ slot → c s (data_offset_of (reading_of Whole_) s + row) ≡ full_sector (shape_of m.newest) list' row r
        new r s it here =
            ap (λ (t : ℕ). c t (data_offset_of (reading_of Whole_) t + row)) here
            ∙ alone-is (disk given.start tape) list full row lt (c slot (data_offset_of (reading_of Whole_) slot + row)) (drawn slot (data_offset_of (reading_of Whole_) slot + row))
            ∙ full-alike list' settled row lt
            ∙ ap (full_sector (shape_of m.newest) list' row) (sym it)

    made-settled : IsSettled scope m told.values (disk given.start tape) → IsSettled scope (W given m placed None role slot to) told.values (disk given.start tape)
    made-settled s = settled-still scope given (W given m placed None role slot to) told.values (disk given.start tape) s.list (placed-given given m placed None role slot to) still
        (λ x lt. s.allowed x (subst (λ (n : ℕ). x < n) (sym (length-still m still)) lt))
        (rows-settled s.list (still-settled scope given m told.values (disk given.start tape) placed still s))

    pub made-right : IsViewRight sound scope given told m (disk given.start tape) → AreGoneTold told (W given m placed None role slot to) → IsViewRight sound scope given told (W given m placed None role slot to) (disk given.start tape)
    made-right right gone = record {
      placed = whole-placed scope right.placed;
      sized = right.sized;
      gone = gone;
      unclean = right.unclean;
      reshaping = right.reshaping;
      held = λ header may. held-still scope Whole_ told.values (disk given.start tape) still
          (rows-allowed (still-held scope m told.values (disk given.start tape) still header may right.held)) header may;
      sections = right.sections;
      settled = λ clean few sure. made-settled (right.settled clean does sure);
      headers = λ active sure. absurd (let clash = sym still ∙ active in cc);
      tails = λ sure x s tail. absurd (untailed m.newest still x tail);
    }

-- ---- the change

-- the known superblocks say that the slot recovers the role
making-of : (scope : Scope) (given : Given) (role slot : ℕ) (former : Members) (gone : ℕ) (d : ℕ → ℕ → List Sector) → IsPlaced given (members_without gone former) → slot < 32 → IsHeldBy scope former d
    → role_state (reading_of (members_without gone former)) role ≡ Recovering slot → IsMakingWhole (members_without gone former) (giving (members_without gone former) slot role None) slot role
making-of scope given role slot former gone d placed small held recovers = record {
  sb = its.1;
  is = its.2;
  recovers = said-recovering scope.sizes.sectors (known_of scope held.known former.own) former.newest role slot its.1 (sym (role-said scope held.known former held.said role) ∙ was) its.3;
  holds = role_from-found slot 0 (members_without gone former).roles role (holder-held slot (get_or (members_without gone former).roles role Missing) (ap holder recovers))
      (λ j holds. placed.apart j role slot (held-holder slot (get_or (members_without gone former).roles j Missing) holds) (ap holder recovers))
      ∙ (let same : 0 + role ≡ role = omega arith in ap (λ (n : ℕ). Some n) same);
  gives = give-here slot role None small;
  others = λ s other. give-other slot role None s other;
  none = refl;
}
  where
    -- the role was the slot's before slots were lost
    was : role_state (reading_of former) role ≡ Recovering slot
    was = sym (state_kept gone slot (role_state (reading_of former) role) (ap holder (sym (state_after former gone role) ∙ recovers))).same ∙ sym (state_after former gone role) ∙ recovers

    its : (has_slot held.known slot ≡ true) × (sb : Sb) × (own_in former.own slot ≡ Some sb) × (get_or (known_of scope held.known former.own) slot None ≡ Some sb)
    its = role-known scope held.known former held.said role slot (ap holder was)

-- ---- the ledger behind it

-- It tells what the other does, but for the role perhaps, which isn't missing where it is whole on the slot.
pub record IsMoreBack (sound : Type 0) (scope : Scope) (given : Given) (told more : Ledger) (role slot : ℕ) (new : Members) : Type 0 where
  pub right : (m : Members) (d : ℕ → ℕ → List Sector) → role_state (reading_of m) role ≡ Whole slot → IsViewRight sound scope given told m d → IsViewRight sound scope given more m d
  pub gone : AreGoneTold more new
  pub carried : (slot number : ℕ) → told.carried slot number ≡ true → more.carried slot number ≡ true

pub back-same : (sound : Type 0) (scope : Scope) (given : Given) (told : Ledger) (role slot : ℕ) (new : Members) → AreGoneTold told new → IsMoreBack sound scope given told told role slot new
back-same sound scope given told role slot new gone = record { right = λ m d whole right. right; gone = gone; carried = λ slot number is. is }

pub back-told : (told : Ledger) (role slot : ℕ) (new : Members) → AreGoneTold told new → role_state (reading_of new) role ≡ Whole slot → AreGoneTold (given_back role told) new
back-told told role slot new gone whole r lt missing = (λ i. gone r lt missing i && not (other i))
  where
    differ : (a b : ℕ) → a ≢ b → (a == b) ≡ false
    differ a b apart = grind (arith, nat_tests, apart)

    other : (r == role) ≡ false
    other = differ r role (λ same. absurd (
        let none = ap (λ (s : Role). not (is_whole s)) (ap (role_state (reading_of new)) same ∙ whole) in let clash = sym missing ∙ none in cc
        ))

pub back-given : (sound : Type 0) (scope : Scope) (given : Given) (told : Ledger) (role slot : ℕ) (new : Members) → AreGoneTold told new → role_state (reading_of new) role ≡ Whole slot
    → IsMoreBack sound scope given told (given_back role told) role slot new
back-given sound scope given told role slot new gone whole = record {
  right = λ m d is right. record {
    placed = right.placed;
    sized = right.sized;
    gone = back-told told role slot m right.gone is;
    unclean = right.unclean;
    reshaping = right.reshaping;
    held = right.held;
    sections = right.sections;
    settled = right.settled;
    headers = right.headers;
    tails = right.tails;
  };
  gone = back-told told role slot new gone whole;
  carried = λ slot number is. is;
}

-- ---- what the update owes

module _ (sound : Type 0) (scope : Scope) (given : Given) (told : Ledger) (role slot : ℕ) (old new : Members) (before after : List Operation)
    (m : IsChanged ⊤ given (giving old slot role None) old new before after) (placed : IsPlaced given old) (still : is_reshaping old.newest ≡ false) (to : IsReceiver given old role slot) (below : role < (shape_of old.newest).disks)
    (recovers : role_state (reading_of old) role ≡ Recovering slot) (premise : sound) (does : DoWithout old) (list : ℕ → Sector) (stands : RowsStand old (present given before) list)
    (allowed : AreWritesAllowed old told.values list) (full : IsFlushedFull old role slot list (disk given.start before)) (gone : AreGoneTold told new) (here : told.gone role ≡ true)
    (steady : IsSteady sound scope given told old (disk given.start before)) where
  abbrev Gives : Change
  Gives = giving old slot role None

  abbrev Still : Change
  Still = without_gives Gives

  abbrev With : Members
  With = W given old placed None role slot to

  -- a role that is missing in the end is told
  told-last : (r : ℕ) → r < role_count old.newest → not (is_whole (role_without new.lost (role_state (reading_of With) r))) ≡ true → told.gone r ≡ true
  told-last r lt missing = told-plan told given Gives old new before after m gone r (let same = count-planned old Gives in omega (arith, lt, same))
      (ap (λ (s : Role). not (is_whole s)) (given-state given old placed None role slot to new.lost r) ∙ missing)

  lt-of : (r : ℕ) → r < role_count (planned_view old (without_gives (giving old slot role None)) old.lost).newest → r < role_count old.newest
  lt-of r lt = let same = count-planned old Still in omega (arith, lt, same)

  told-with : AreGoneTold told With
  told-with r lt missing = told-last r lt (still-missing With new.lost (role_state (reading_of With) r) missing)

  -- where the slot still recovers, the role besides
  told-still : (lost : ℕ) → IsWithin lost new.lost → (r : ℕ) → r < role_count old.newest → not (is_whole (role_without lost (role_state (reading_of old) r))) ≡ true → told.gone r ≡ true
  told-still lost within r lt missing = elim (cases_eq r role) [
    | inl same ↦ ap told.gone same ∙ here
    | inr apart ↦ told-last r lt (ap (λ (s : Role). not (is_whole (role_without new.lost s))) (state-other given old placed None role slot to r apart) ∙ missing-more lost new.lost within (role_state (reading_of old) r) missing)
  ]

  told-old : AreGoneTold told old
  told-old r lt missing = told-still old.lost m.stay r lt (still-missing old old.lost (role_state (reading_of old) r) missing)

  old-right : IsViewRight sound scope given told old (disk given.start before)
  old-right = steady-right sound scope given told old (disk given.start before) steady told-old

  with-right : IsViewRight sound scope given told With (disk given.start before)
  with-right = made-right given old placed still role slot to recovers sound scope told before list premise does below stands allowed full old-right told-with

  count-old : length old.roles ≡ role_count old.newest
  count-old = placed.roles

  still-state : (lost r : ℕ) → role_state (reading_of (planned_view old Still lost)) r ≡ role_without lost (role_state (reading_of old) r)
  still-state lost r = ap (λ (l : List Role). get_or l r Missing) (roles-kept old.roles lost placed.apart (λ t s is. (placed.holders t s is).small) (role_count old.newest) (sym count-old)) ∙ state-without lost old.roles r

  gone-still : (lost : ℕ) → IsWithin lost new.lost → AreGoneTold told (planned_view old Still lost)
  gone-still lost within r lt missing = told-still lost within r (lt-of r lt) (ap (λ (s : Role). not (is_whole s)) (sym (still-state lost r)) ∙ missing)

  still-less : IsLessView old (planned_view old Still old.lost)
  still-less = kept-less old Still old.lost (λ s. give_of-same 32 s) count-old

  still-right : IsViewRight sound scope given told (planned_view old Still old.lost) (disk given.start before)
  still-right = less-right sound scope given told old (planned_view old Still old.lost) (disk given.start before) still-less
      (placed-less scope given old (planned_view old Still old.lost) still-less (planned-fits old Still old-right.placed.fit) (planned-backup scope old Still old-right.placed.backup) old-right.placed)
      (gone-still old.lost m.stay) old-right

  pub makable : (more : Ledger) → IsMoreBack sound scope given told more role slot new → IsMakable sound scope given told more (giving old slot role None) slot role old new (disk given.start before)
  makable more back = record {
    making = subst (λ (o : Members). IsPlaced given o → role_state (reading_of o) role ≡ Recovering slot → IsMakingWhole o (giving o slot role None) slot role) (sym steady.since.since)
        (λ placed is. making-of scope given role slot steady.former steady.since.gone (disk given.start before) placed to.room.small steady.since.held is) placed recovers;
    size = refl;
    count = refl;
    still = still-right;
    right = less-right sound scope given more With (planned_view old Gives old.lost) (disk given.start before) less
        (placed-less scope given With (planned_view old Gives old.lost) less (planned-fits old Gives with-right.placed.fit) (planned-backup scope old Gives with-right.placed.backup) with-right.placed)
        (λ r lt missing. more-end r (lt-both r lt) (ap (λ (s : Role). not (is_whole s)) (given-state given old placed None role slot to new.lost r)
        ∙ missing-more old.lost new.lost m.stay (role_state (reading_of With) r) (ap (λ (s : Role). not (is_whole s)) (sym (given-state given old placed None role slot to old.lost r)) ∙ missing)))
        (back.right With (disk given.start before) (state-here given old placed None role slot to) with-right);
    gone_still = gone-still new.lost (λ s is. is);
    gone = more-end;
    carried = back.carried;
  }
    where
      less : IsLessView (W given old placed None role slot to) (planned_view old (giving old slot role None) old.lost)
      less = given-less given old placed None role slot to old.lost

      more-end : AreGoneTold more (planned_view old Gives new.lost)
      more-end = told-plan more given Gives old new before after m back.gone

      lt-both : (r : ℕ) → r < role_count (planned_view old Gives old.lost).newest → r < role_count (planned_view old Gives new.lost).newest
      lt-both r lt = lt

-- the slot is among those that hold a role already
pub held-already : (m : Members) (role slot held : ℕ) → AreHolders (reading_of m) held → role_state (reading_of m) role ≡ Recovering slot → (s : ℕ) → has_slot held s ≡ (has_slot held s || (slot == s))
held-already m role slot held holders is s = elim (cases_eq s slot) [
  | inl same ↦
      let has = ap (has_slot held) same ∙ holders.all role slot (ap holder is) in
      has ∙ sym (ap (λ (b : Bool). b || (slot == s)) has)
  | inr apart ↦ sym (ap (λ (b : Bool). has_slot held s || b) (differ slot s (λ same. apart (sym same))) ∙ or_none (has_slot held s))
]
  where
    differ : (a b : ℕ) → a ≢ b → (a == b) ≡ false
    differ a b apart = grind (arith, nat_tests, apart)

    or_none : (b : Bool) → (b || false) ≡ b
    or_none true = refl
    or_none false = refl
