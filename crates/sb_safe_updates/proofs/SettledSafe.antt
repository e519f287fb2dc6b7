-- Where the members are flushed, and lost slots are named, the list alone is told.
use Rattle.std.proofs.Common.{◌≡◌, ◌⊎◌, inl, inr, ℕ, ◌+◌, Bool, true, false, List, [], ◌∷◌, refl, sym, ◌∙◌, ap, subst, arith}
use Rattle.raid_layout.specs.raid_types_Sectors.{Sector}
use Rattle.sb_update.specs.bank_the_Operation.{Operation}
use Rattle.sb_update.specs.bank_Given.{Given}
use Rattle.sb_update.specs.bank_Tape.{IsIn, disk}
use Rattle.sb_update.specs.sb_specs_the_Members.{Members}
use Rattle.sb_update.specs.sb_specs_Reading.{Scope, Reading, is_clean, shape_of, final_shape, data_offset_of}
use Rattle.array_members.specs.stripe_row_Rows.{reading_of, present, IsTolerated}
use Rattle.array_members.proofs.stripe_row_Losses.{holder-of}
use Rattle.array_members.specs.Placed.{IsPlaced}
use Rattle.array_members.specs.crash_views_Regions.{DoWithout}
use Rattle.array_members.specs.Lacking.{AreHoldersFlushed}
use Rattle.array_members.specs.Under.{StandsUnder, RowsStandUnder}
use Rattle.array_members.specs.crash_views_Regions.{place_by}
use Rattle.array_members.specs.crash_views_Views.{Ledger, AreHeldAllowed, AreSectionsAllowed, IsSettled}
use Rattle.array_members.specs.crash_safety_laws_Steady.{IsSafeNow, IsNamedNow, settled_ledger}
use Rattle.array_members.proofs.Still.{flushed-is-settled}

-- a sector that a slot holds has the list's value alone, where no active section covers it
holds-alone : (scope : Scope) (given : Given) (m : Members) (tape : List Operation) (list : ℕ → Sector) → IsPlaced given m → AreHoldersFlushed (reading_of m) given tape
    → StandsUnder scope m (present given tape) (disk given.start tape) list → AreHeldAllowed scope m (λ x. list x ∷ []) (disk given.start tape)
holds-alone scope given m tape list placed flushed stands header may x slot outside holds v is =
    let role = (place_by m.newest x).role in
    let row = (place_by m.newest x).row in
    let own = holder-of (reading_of m) role row slot holds in
    inl (only (present given tape slot (data_offset_of (reading_of m) slot + row)) (subst (λ (values : List Sector). IsIn values v)
    (flushed role slot (data_offset_of (reading_of m) slot + row) own (λ e. absurd (let far = placed.behind role slot own in omega (arith, e, far)))) is)
    ∙ stands.outside header may x slot (record { within = outside.within; outside = outside.outside }) holds)
  where
    only : (w : Sector) → (v ≡ w) ⊎ ⊥ → v ≡ w
    only w (inl same) = same
    only w (inr none) = absurd none

-- ---- the law

module _ (sound : Type 0) (scope : Scope) (given : Given) (told : Ledger) (unsynced : Bool) (m : Members) (tape : List Operation) (list : ℕ → Sector) (placed : IsPlaced given m)
    (flushed : AreHoldersFlushed (reading_of m) given tape) (stands : StandsUnder scope m (present given tape) (disk given.start tape) list) (dirty : is_clean m.newest ≡ false → unsynced ≡ true)
    (rows : is_clean m.newest ≡ true → DoWithout m → sound → RowsStandUnder scope m (present given tape) (disk given.start tape) list) (named : IsNamedNow sound scope given told m (disk given.start tape)) where
  abbrev Former : Members
  Former = named.steady.former

  -- the former members say the same
  same : reading_of Former ≡ reading_of m
  same i = record {
    newest = sym (ap (λ (n : Members). n.newest) named.steady.since.since) i;
    own = sym (ap (λ (n : Members). n.own) named.steady.since.since) i;
    roles = named.roles i;
    spares = sym (ap (λ (n : Members). n.spares) named.steady.since.since) i;
  }

  -- and no more than the lost slots are others
  abbrev Here : Members
  Here = record m { lost = named.steady.former.lost }

  former-is : Former ≡ Here
  former-is i = record {
    newest = sym (ap (λ (n : Members). n.newest) named.steady.since.since) i;
    own = sym (ap (λ (n : Members). n.own) named.steady.since.since) i;
    roles = named.roles i;
    spares = sym (ap (λ (n : Members). n.spares) named.steady.since.since) i;
    lost = named.steady.former.lost;
  }

  placed-here : IsPlaced given Here
  placed-here = record {
    fit = placed.fit;
    roles = placed.roles;
    holders = placed.holders;
    behind = placed.behind;
    apart = placed.apart;
    live = placed.live;
  }

  stands-here : StandsUnder scope Here (present given tape) (disk given.start tape) list
  stands-here = record { outside = stands.outside; sections = stands.sections }

  without-here : DoWithout Former → DoWithout m
  without-here does = record {
    old = subst (λ (r : Reading). IsTolerated r (shape_of r.newest)) same does.old;
    final = subst (λ (r : Reading). IsTolerated r (final_shape r.newest)) same does.final;
  }

  settled-here : is_clean Former.newest ≡ true → DoWithout Former → sound → IsSettled scope Here (λ x. list x ∷ []) (disk given.start tape)
  settled-here clean does premise =
      let stand = rows (ap (λ (r : Reading). is_clean r.newest) (sym same) ∙ clean) (without-here does) premise in
      flushed-is-settled scope given Here tape (λ x. list x ∷ []) list placed-here flushed (record { rows = stand.rows; zeros = stand.zeros }) (λ x lt. inl refl)

  pub settled-safe : IsSafeNow sound scope given (settled_ledger unsynced list told) m (disk given.start tape)
  settled-safe = inl (record {
    former = named.steady.former;
    since = named.steady.since;
    right = record {
      placed = named.steady.right.placed;
      sized = named.steady.right.sized;
      gone = named.steady.right.gone;
      unclean = λ is. dirty (ap (λ (r : Reading). is_clean r.newest) (sym same) ∙ is);
      reshaping = named.steady.right.reshaping;
      held = subst (λ (n : Members). AreHeldAllowed scope n (λ x. list x ∷ []) (disk given.start tape)) (sym former-is) (holds-alone scope given Here tape list placed-here flushed stands-here);
      sections = subst (λ (n : Members). AreSectionsAllowed scope n (λ x. list x ∷ []) (disk given.start tape)) (sym former-is) stands.sections;
      settled = λ clean does premise. subst (λ (n : Members). IsSettled scope n (λ x. list x ∷ []) (disk given.start tape)) (sym former-is) (settled-here clean does premise);
      headers = named.steady.right.headers;
      tails = named.steady.right.tails;
    };
    numbers = named.steady.numbers;
  })

-- where it is clean, no write is unsettled
pub clean-settled : {sound : Type 0} {scope : Scope} {given : Given} {m : Members} {d : ℕ → ℕ → List Sector} (told : Ledger) (dirty unsynced : Bool) (list : ℕ → Sector) → is_clean m.newest ≡ true
    → IsNamedNow sound scope given (settled_ledger dirty list told) m d → IsSafeNow sound scope given (settled_ledger unsynced list told) m d
clean-settled {m = m} told dirty unsynced list clean named = inl (record {
  former = named.steady.former;
  since = named.steady.since;
  right = record {
    placed = named.steady.right.placed;
    sized = named.steady.right.sized;
    gone = named.steady.right.gone;
    unclean = λ is. absurd (let same = ap (λ (n : Members). is_clean n.newest) named.steady.since.since in let clash = sym clean ∙ same ∙ is in cc);
    reshaping = named.steady.right.reshaping;
    held = named.steady.right.held;
    sections = named.steady.right.sections;
    settled = named.steady.right.settled;
    headers = named.steady.right.headers;
    tails = named.steady.right.tails;
  };
  numbers = named.steady.numbers;
})
