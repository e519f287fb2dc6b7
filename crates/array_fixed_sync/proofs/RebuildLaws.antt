-- Which step of a rebuild is the next one, and what it leaves as it is.
use Rattle.std.proofs.Common.{◌≡◌, inl, inr, ℕ, ◌<◌, ◌≤◌, max, Bool, true, false, nat_lt, cond, Option, Some, None, Result, Ok, Err, List, [], ◌∷◌, ◌++◌, refl, sym, ◌∙◌, ap, subst, append-nil, arith}
use Rattle.std.proofs.lemmas.Bool.Decides.{nat_tests}
use Rattle.std.proofs.lemmas.List.Elements.{All-weaker}
use Rattle.std.specs.Prelude.{fold, IsSome, unwrap_or, OnOk, MatchOption}
use Rattle.std.specs.Option.{option_map_or}
use Rattle.array_fixed_io.specs.raid_types_Sectors.{Sector}
use Rattle.array_fixed_io.specs.raid_types_the_Who.{Who}
use Rattle.array_fixed_io.specs.raid_types_the_Fault.{Fault}
use Rattle.array_fixed_io.specs.raid_types_the_Refusal.{Refusal}
use Rattle.array_fixed_io.specs.raid_types_the_Fault_TheVariants.{Refused as IsRefusedWith, NoMemory}
use Rattle.array_fixed_io.specs.raid_types_the_Role.{Role}
use Rattle.array_fixed_io.specs.raid_types_the_Role_TheVariants.{Whole, Recovering, Missing}
use Rattle.array_fixed_io.specs.sb_specs_the_Members.{Members}
use Rattle.array_fixed_io.specs.sb_specs_Reading.{shape_of, final_shape, role_state}
use Rattle.array_fixed_io.specs.sb_specs_Reads.{has_spare}
use Rattle.array_fixed_io.specs.stripe_row_Rows.{reading_of}
use Rattle.array_fixed_io.specs.history_the_Entry.{Entry}
use Rattle.array_fixed_io.specs.history_the_Event.{Event}
use Rattle.array_fixed_io.specs.history_the_Event_TheVariants.{Lost, SpareLost, Refused}
use Rattle.array_fixed_io.specs.history_the_LostCause.{LostCause}
use Rattle.array_fixed_io.specs.history_the_LostCause_TheVariants.{Fault as ByFault, Command}
use Rattle.array_fixed_io.specs.history_the_StepKind.{StepKind}
use Rattle.array_fixed_io.specs.history_the_StepKind_TheVariants.{RebuildTaken, RebuildStripe, RebuildEnded}
use Rattle.array_fixed_io.specs.history_Flat.{values_after, values_of}
use Rattle.array_fixed_io.specs.history_Plain.{entries_of}
use Rattle.array_fixed_io.specs.array_members_the_Work.{Work}
use Rattle.array_fixed_io.specs.history_append_Losing.{losses_of}
use Rattle.array_fixed_io.specs.array_members_Placed.{is_unassigned}
use Rattle.array_fixed_io.specs.array_members_Status.{stripes_of, rebuilt_of}
use Rattle.array_fixed_io.specs.array_call_specs_Calls.{IsRecovered, IsRecoveredOrLost, IsRebuildStepped, AreValuesKept, IsRoleLossBy, IsLossBy, AreLossesBy}
use Rattle.array_fixed_io.proofs.history_append_CallLaws.{losses-are, values-losses}
use Rattle.array_fixed_io.proofs.array_call_specs_NowLaws.{values-more}
use Rattle.array_fixed_io.specs.array_type_Rebuilding.{recovers, first_recovering, first_unassigned, first_spare, IsRebuildNext, rebuilt_role, rebuild_kind, rebuild_events, IsGivenToSpare}
use Rattle.array_fixed_io.proofs.array_type_Lowest.{lowest-found}

-- ---- what is next

recovered-by : (state : Role) → recovers state ≡ true → (slot : ℕ) × (state ≡ Recovering slot)
recovered-by (Whole slot) is = absurd (cc)
recovered-by (Recovering slot) is = (slot, refl)
recovered-by Missing is = absurd (cc)

-- the lowest role that recovers is one of the array's disks, and is recovered
pub found-below : (members : Members) (role : ℕ) → first_recovering members ≡ Some role → role < (shape_of members.newest).disks
found-below members role is = (lowest-found (shape_of members.newest).disks (λ role. recovers (role_state (reading_of members) role)) role is).0

pub found-recovered : (members : Members) (role : ℕ) → first_recovering members ≡ Some role → IsRecovered members role
found-recovered members role is =
    let found = lowest-found (shape_of members.newest).disks (λ role. recovers (role_state (reading_of members) role)) role is in
    let held = recovered-by (role_state (reading_of members) role) found.1 in
    (wider (shape_of members.newest).disks (final_shape members.newest).disks found.0, held.0, held.1)
  where
    wider : (a b : ℕ) → role < a → role < max a b
    wider a b lt = omega (arith, lt)

module _ (work : Work) (members : Members) where
  pub role-recovered : (role : ℕ) → first_recovering members ≡ Some role → rebuilt_role members ≡ role
  role-recovered role is = ap (λ (o : Option ℕ). unwrap_or o (unwrap_or (first_unassigned members) 0)) is

  kind-recovered : (role : ℕ) (test : Bool) → first_recovering members ≡ Some role → nat_lt (rebuilt_of work role) (stripes_of members) ≡ test
      → rebuild_kind work members ≡ cond test RebuildStripe RebuildEnded
  kind-recovered role test is less =
      ap (λ (o : Option ℕ). option_map_or (λ role. cond (nat_lt (rebuilt_of work role) (stripes_of members)) RebuildStripe RebuildEnded) o RebuildTaken) is
      ∙ ap (λ (b : Bool). cond b RebuildStripe RebuildEnded) less

  pub kind-filled : (role : ℕ) → first_recovering members ≡ Some role → rebuilt_of work role < stripes_of members → rebuild_kind work members ≡ RebuildStripe
  kind-filled role is less = kind-recovered role true is (below (rebuilt_of work role) (stripes_of members) less)
    where
      below : (a b : ℕ) → a < b → nat_lt a b ≡ true
      below a b lt = grind (arith, nat_tests, lt)

  pub kind-ended : (role : ℕ) → first_recovering members ≡ Some role → stripes_of members ≤ rebuilt_of work role → rebuild_kind work members ≡ RebuildEnded
  kind-ended role is all = kind-recovered role false is (reached (rebuilt_of work role) (stripes_of members) all)
    where
      reached : (a b : ℕ) → b ≤ a → nat_lt a b ≡ false
      reached a b le = grind (arith, nat_tests, le)

  pub kind-taken : first_recovering members ≡ None → rebuild_kind work members ≡ RebuildTaken
  kind-taken none = ap (λ (o : Option ℕ). option_map_or (λ role. cond (nat_lt (rebuilt_of work role) (stripes_of members)) RebuildStripe RebuildEnded) o RebuildTaken) none

-- The lowest role that no slot holds, and the lowest spare, where a role is given next.
pub record IsTaking (members : Members) (role slot : ℕ) : Type 0 where
  pub role_is : rebuilt_role members ≡ role
  pub below : role < (shape_of members.newest).disks
  pub vacant : is_unassigned (reading_of members) role ≡ true
  pub spare : has_spare members.spares slot ≡ true
  pub lowest : first_spare members ≡ Some slot

taken : (members : Members) (vacant spare : Option ℕ) → first_recovering members ≡ None → first_unassigned members ≡ vacant → first_spare members ≡ spare → IsSome vacant → IsSome spare
    → IsTaking members (unwrap_or vacant 0) (unwrap_or spare 0)
taken members None spare none lowest some has there = absurd (cc)
taken members (Some role) None none lowest some has there = absurd (cc)
taken members (Some role) (Some slot) none lowest some has there =
    let found = lowest-found (shape_of members.newest).disks (is_unassigned (reading_of members)) role lowest in
    record {
      role_is = ap (λ (o : Option ℕ). unwrap_or o (unwrap_or (first_unassigned members) 0)) none ∙ ap (λ (o : Option ℕ). unwrap_or o 0) lowest;
      below = found.0;
      vacant = found.1;
      spare = (lowest-found 32 (has_spare members.spares) slot some).1;
      lowest = some;
    }

pub takes-next : (members : Members) → IsRebuildNext members → first_recovering members ≡ None → IsTaking members (unwrap_or (first_unassigned members) 0) (unwrap_or (first_spare members) 0)
takes-next members (inl recovers_one) none = absurd (let some = subst IsSome none recovers_one in cc)
takes-next members (inr there) none = taken members (first_unassigned members) (first_spare members) none refl refl there.0 there.1

-- ---- what a step entered

-- by the kind and the role of the next step
pub entered-as : {T : Type 0} (who : Who) (old new : List Entry) (members members' : Members) (work : Work) (kind : StepKind) (role left : ℕ) (result : Result T Fault)
    → rebuild_kind work members ≡ kind → rebuilt_role members ≡ role → IsRebuildStepped who old new members' role (rebuild_events kind role left) result
    → IsRebuildStepped who old new members' (rebuilt_role members) (rebuild_events (rebuild_kind work members) (rebuilt_role members) left) result
entered-as who old new members members' work kind role left result kind_is role_is was =
    subst (λ (k : StepKind). IsRebuildStepped who old new members' (rebuilt_role members) (rebuild_events k (rebuilt_role members) left) result) (sym kind_is)
    (subst (λ (r : ℕ). IsRebuildStepped who old new members' r (rebuild_events kind r left) result) (sym role_is) was)

-- events that change no values, behind losses
AreQuiet : Who → List Event → Type 0
AreQuiet who events = (end x : ℕ) (values : List Sector) → fold (λ values e. values_after x values e.event) values (entries_of who end events) ≡ values

kept-behind : (who : Who) (old new : List Entry) (events : List Event) (roles spares end : ℕ) → AreQuiet who events → new ≡ old ++ entries_of who end (losses_of roles spares ++ events) → AreValuesKept old new
unfolding AreQuiet
kept-behind who old new events roles spares end quiet is list x =
    ap (λ (l : List Entry). values_of list l x) is
    ∙ values-more list old (entries_of who end (losses_of roles spares ++ events)) x
    ∙ values-losses who end (losses_of roles spares) events (losses-are roles spares) x (values_of list old x)
    ∙ quiet end x (values_of list old x)

quiet-step : (who : Who) (kind : StepKind) (role left : ℕ) → AreQuiet who (rebuild_events kind role left)
unfolding AreQuiet
quiet-step who RebuildEnded role left end x values = refl
quiet-step who kind role left end x values = refl

quiet-none : (who : Who) → AreQuiet who []
unfolding AreQuiet
quiet-none who end x values = refl

quiet-refused : (who : Who) (refusal : Refusal) → AreQuiet who (Refused refusal ∷ [])
unfolding AreQuiet
quiet-refused who refusal end x values = refl

-- the list stays over a step, done or not
pub kept-stepped : {T : Type 0} (who : Who) (old new : List Entry) (members : Members) (role : ℕ) (kind : StepKind) (left : ℕ) (result : Result T Fault)
    → IsRebuildStepped who old new members role (rebuild_events kind role left) result → AreValuesKept old new
kept-stepped who old new members role kind left (Ok x) (inl done) = kept-behind who old new (rebuild_events kind role left) done.0 done.1 done.2 (quiet-step who kind role left) done.3
kept-stepped who old new members role kind left (Ok x) (inr ended) =
    kept-behind who old new [] ended.0.roles ended.0.spares ended.0.end (quiet-none who)
    (ended.0.is ∙ ap (λ (l : List Event). old ++ entries_of who ended.0.end l) (sym (append-nil (losses_of ended.0.roles ended.0.spares))))
kept-stepped who old new members role kind left (Err (IsRefusedWith refusal)) was = kept-behind who old new (Refused refusal ∷ []) was.roles was.spares was.end (quiet-refused who refusal) was.is
kept-stepped who old new members role kind left (Err NoMemory) was = λ list x. ap (λ (l : List Entry). values_of list l x) was

-- ---- where it is done

-- it isn't the end of a rebuild
pub not-end : {T E : Type 0} (Fact : Type 0) {kind other : StepKind} (result : Result T E) → kind ≡ other → (other ≡ RebuildEnded → ⊥) → OnOk result (kind ≡ RebuildEnded → Fact)
not-end Fact (Ok x) is apart = λ end. absurd (apart (sym is ∙ end))
not-end Fact (Err fault) is apart = tt

-- what holds at its end
pub at-end : {T E : Type 0} (Fact : Type 0) (kind : StepKind) (result : Result T E) → OnOk result Fact → OnOk result (kind ≡ RebuildEnded → Fact)
at-end Fact kind (Ok x) fact = λ end. fact
at-end Fact kind (Err fault) fact = tt

-- it is of another kind
pub not-taking : {T E : Type 0} (Fact : Type 0) {kind other : StepKind} (result : Result T E) → kind ≡ other → (other ≡ RebuildTaken → ⊥) → OnOk result (kind ≡ RebuildTaken → Fact)
not-taking Fact (Ok x) is apart = λ taken. absurd (apart (sym is ∙ taken))
not-taking Fact (Err fault) is apart = tt

-- the role was given to the lowest spare
pub given-to : {T E : Type 0} (old new : Members) (kind : StepKind) (role slot : ℕ) (result : Result T E) → IsTaking old role slot → OnOk result (IsRecoveredOrLost new role slot)
    → OnOk result (kind ≡ RebuildTaken → IsGivenToSpare old new)
given-to old new kind role slot (Ok x) next was = λ taken.
    subst (λ (o : Option ℕ). MatchOption o ⊥ (IsRecoveredOrLost new (rebuilt_role old))) (sym next.lowest) (subst (λ (r : ℕ). IsRecoveredOrLost new r slot) (sym next.role_is) was)
given-to old new kind role slot (Err fault) next was = tt

-- ---- losses

module _ (Had Has : ℕ → ℕ → Type 0) (Was : ℕ → Type 0) (f g : ℕ → ℕ) (had : (role slot : ℕ) → Has role slot → Had role slot) where
  wider-role : (role : ℕ) (cause : LostCause) → IsRoleLossBy Has f g role cause → IsRoleLossBy Had f g role cause
  wider-role role ByFault loss = (loss.0, had role loss.0 loss.1, loss.2)
  wider-role role Command loss = (loss.0, had role loss.0 loss.1)
  wider-role role cause loss = absurd loss

  wider : (event : Event) → IsLossBy Has Was f g event → IsLossBy Had Was f g event
  wider (Lost role cause) loss = wider-role role cause loss
  wider (SpareLost slot) failed = failed
  wider event loss = tt

  -- losses of slots that had the roles, by a wider word of it
  pub losses-wider : (old new : List Entry) → AreLossesBy Has Was f g old new → AreLossesBy Had Was f g old new
  losses-wider old new was = record {
    more = was.more;
    grown = was.grown;
    failed = All-weaker (λ e. IsLossBy Has Was f g e.event) (λ e. IsLossBy Had Was f g e.event) (λ e loss. wider e.event loss) was.more was.failed;
  }
