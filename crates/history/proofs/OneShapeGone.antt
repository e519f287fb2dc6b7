-- In a history without a reshape the entries alone say what is gone and what is unclean.
use Rattle.std.proofs.Common.{◌≡◌, ℕ, zero, suc, ◌-◌, Bool, true, false, not, ◌&&◌, ◌||◌, List, [], ◌∷◌, ◌++◌, take, drop, slice_range, fold, refl, sym, ap, ap₂, ◌∙◌, Option}
use Rattle.std.specs.List.{list_any, list_all}
use Rattle.std.proofs.lemmas.List.Folds.{list_all-append}
use Rattle.std.proofs.lemmas.List.Sums.{fold-append}
use Rattle.raid_types.specs.Search.{count_below}
use Rattle.raid_types.proofs.Counted.{count_below-same}
use Rattle.sb_read_laws.specs.sb_specs_Reading.{Reading}
use Rattle.history.specs.declared.events.Event.{Event}
use Rattle.history.specs.declared.events.Event.TheVariants.{Lost, Rebuilt, Step}
use Rattle.history.specs.declared.events.StepKind.TheVariants.{Begun, TakenOver}
use Rattle.history.specs.declared.events.Entry.{Entry}
use Rattle.history.specs.World.{World, reading_at}
use Rattle.history.specs.Losses.{takes, gives_back, gone_surely, gone_perhaps, is_gone, is_gone_after, gone_count, unsettles, settles, is_unsynced, unsettled_surely, unsettled_perhaps, is_unclean}
use Rattle.history.specs.Legal.{level_after, level_at}
use Rattle.history.specs.Plain.{loses_role}
use Rattle.history.proofs.LegalLaws.{both}
use Rattle.history.specs.OneShape.{is_lost, gives_role, is_gone_with, is_gone_now, gone_count_now, is_gone_by, gone_count_by, keeps_shape_event, KeepShape, is_unsettled, is_written, LossesAreGone}

-- ---- booleans

neither : (a b : Bool) → (a || b) ≡ false → (a ≡ false) × (b ≡ false)
neither false b e = (refl, e)
neither true b e = absurd (cc)

or-false : (b : Bool) → b ≡ (b || false)
or-false true = refl
or-false false = refl

or-assoc : (a b c : Bool) → ((a || b) || c) ≡ (a || (b || c))
or-assoc true b c = refl
or-assoc false b c = refl

and-true : (a : Bool) → (a && true) ≡ a
and-true true = refl
and-true false = refl

unchanged : (b : Bool) → b ≡ (b && true || false)
unchanged true = refl
unchanged false = refl

-- what was so, unless an entry ends it, or begins it anew
regroup : (was ends begins later rest : Bool) → ((was && not ends || begins) && not later || rest) ≡ (was && not (ends || later) || (begins && not later || rest))
regroup true true true later rest = refl
regroup true true false later rest = refl
regroup true false true true rest = refl
regroup true false true false rest = refl
regroup true false false true rest = refl
regroup true false false false rest = refl
regroup false ends begins later rest = refl

-- ---- parts of a list

-- the first entry keeps the shape, and so do the others
keep-parts : (x : Entry) (xs : List Entry) → KeepShape (x ∷ xs) → (keeps_shape_event x.event ≡ true) × KeepShape xs
keep-parts x xs keep = both (keeps_shape_event x.event) (list_all (λ e. keeps_shape_event e.event) xs) keep

keep-take : (k : ℕ) (xs : List Entry) → KeepShape xs → KeepShape (take k xs)
keep-take zero xs keep = refl
keep-take (suc k) [] keep = refl
keep-take (suc k) (x ∷ xs) keep =
    let parts : (keeps_shape_event x.event ≡ true) × KeepShape xs = keep-parts x xs keep in
    ap (λ b. b && list_all (λ e. keeps_shape_event e.event) (take k xs)) parts.0 ∙ keep-take k xs parts.1

keep-drop : (k : ℕ) (xs : List Entry) → KeepShape xs → KeepShape (drop k xs)
keep-drop zero xs keep = keep
keep-drop (suc k) [] keep = refl
keep-drop (suc k) (x ∷ xs) keep = keep-drop k xs (keep-parts x xs keep).1

pub keep-both : (xs ys : List Entry) → KeepShape xs → KeepShape ys → KeepShape (xs ++ ys)
keep-both xs ys keep more = list_all-append (λ e. keeps_shape_event e.event) xs ys ∙ ap₂ (λ a b. a && b) keep more

-- ---- what is gone by the entries alone

-- a role that isn't told lost isn't gone
pub never-gone : (xs : List Entry) (role : ℕ) → is_lost xs role ≡ false → is_gone_now xs role ≡ false
never-gone [] role none = refl
never-gone (x ∷ xs) role none =
    let parts : (loses_role role x.event ≡ false) × (is_lost xs role ≡ false) = neither (loses_role role x.event) (is_lost xs role) none in
    ap (λ b. fold (is_gone_with role) b xs) parts.0 ∙ never-gone xs role parts.1

-- behind entries that don't give a role back, it is gone where it was gone, or they lose it
stays-gone : (gone : Bool) (xs : List Entry) (role : ℕ) → list_any (λ e. gives_role role e.event) xs ≡ false → fold (is_gone_with role) gone xs ≡ (gone || is_lost xs role)
stays-gone gone [] role none = or-false gone
stays-gone gone (x ∷ xs) role none =
    let parts : (gives_role role x.event ≡ false) × (list_any (λ e. gives_role role e.event) xs ≡ false) =
    neither (gives_role role x.event) (list_any (λ e. gives_role role e.event) xs) none in
    ap (λ b. fold (is_gone_with role) (gone && not b || loses_role role x.event) xs) parts.0
    ∙ ap (λ b. fold (is_gone_with role) (b || loses_role role x.event) xs) (and-true gone)
    ∙ stays-gone (gone || loses_role role x.event) xs role parts.1
    ∙ or-assoc gone (loses_role role x.event) (is_lost xs role)

pub gone-or_lost : (xs ys : List Entry) (role : ℕ) → list_any (λ e. gives_role role e.event) ys ≡ false → is_gone_now (xs ++ ys) role ≡ (is_gone_now xs role || is_lost ys role)
gone-or_lost xs ys role none = fold-append (is_gone_with role) false xs ys ∙ stays-gone (is_gone_now xs role) ys role none

-- where no entry gives a role back, it is gone where it was lost
pub gone-lost : (xs : List Entry) (role : ℕ) → list_any (λ e. gives_role role e.event) xs ≡ false → is_gone_now xs role ≡ is_lost xs role
gone-lost xs role none = stays-gone false xs role none

-- what was gone is gone still, unless one of these entries gives it back
from-gone : (gone : Bool) (xs : List Entry) (role : ℕ) → fold (is_gone_with role) gone xs ≡ (gone && not (list_any (λ e. gives_role role e.event) xs) || is_gone_now xs role)
from-gone gone [] role = unchanged gone
from-gone gone (x ∷ xs) role =
    from-gone (gone && not (gives_role role x.event) || loses_role role x.event) xs role
    ∙ regroup gone (gives_role role x.event) (loses_role role x.event) (list_any (λ e. gives_role role e.event) xs) (is_gone_now xs role)
    ∙ ap (λ b. gone && not (gives_role role x.event || list_any (λ e. gives_role role e.event) xs) || b) (sym (from-gone (loses_role role x.event) xs role))

pub is_gone-both : (xs ys : List Entry) (role : ℕ) → is_gone_now (xs ++ ys) role ≡ (is_gone_now xs role && not (list_any (λ e. gives_role role e.event) ys) || is_gone_now ys role)
is_gone-both xs ys role = fold-append (is_gone_with role) false xs ys ∙ from-gone (is_gone_now xs role) ys role

-- ---- what is gone over a bank

takes-lost : (found : Option Reading) (role : ℕ) (event : Event) → keeps_shape_event event ≡ true → takes found role event ≡ loses_role role event
takes-lost found role (Lost lost cause) keeps = refl
takes-lost found role (Step TakenOver left) keeps = absurd (cc)
takes-lost found role event keeps = refl

gives-rebuilt : (found : Option Reading) (role : ℕ) (event : Event) → keeps_shape_event event ≡ true → gives_back found role event ≡ gives_role role event
gives-rebuilt found role (Rebuilt rebuilt) keeps = refl
gives-rebuilt found role (Step Begun left) keeps = absurd (cc)
gives-rebuilt found role event keeps = refl

module _ (world : World) (role : ℕ) where
  surely-gone : (gone : Bool) (xs : List Entry) → KeepShape xs → fold (gone_surely world role) gone xs ≡ fold (is_gone_with role) gone xs
  surely-gone gone [] keep = refl
  surely-gone gone (x ∷ xs) keep =
      let parts : (keeps_shape_event x.event ≡ true) × KeepShape xs = keep-parts x xs keep in
      surely-gone (gone_surely world role gone x) xs parts.1
      ∙ ap₂ (λ b l. fold (is_gone_with role) (gone && not b || l) xs) (gives-rebuilt (reading_at world x.end) role x.event parts.0) (takes-lost (reading_at world x.end) role x.event parts.0)

  perhaps-lost : (gone : Bool) (xs : List Entry) → KeepShape xs → fold (gone_perhaps world role) gone xs ≡ (gone || is_lost xs role)
  perhaps-lost gone [] keep = or-false gone
  perhaps-lost gone (x ∷ xs) keep =
      let parts : (keeps_shape_event x.event ≡ true) × KeepShape xs = keep-parts x xs keep in
      perhaps-lost (gone_perhaps world role gone x) xs parts.1
      ∙ ap (λ l. (gone || l) || is_lost xs role) (takes-lost (reading_at world x.end) role x.event parts.0)
      ∙ or-assoc gone (loses_role role x.event) (is_lost xs role)

  -- what is gone in the end
  pub after-gone : (xs : List Entry) → KeepShape xs → is_gone_after world xs role ≡ is_gone_now xs role
  unfolding is_gone_after
  after-gone xs keep = surely-gone false xs keep

  pub gone-by : (xs : List Entry) (k j : ℕ) → KeepShape xs → is_gone world xs k j role ≡ is_gone_by xs k j role
  unfolding is_gone
  gone-by xs k j keep =
      perhaps-lost (fold (gone_surely world role) false (take k xs)) (slice_range xs k j) (keep-take (j - k) (drop k xs) (keep-drop k xs keep))
      ∙ ap (λ b. b || is_lost (slice_range xs k j) role) (surely-gone false (take k xs) (keep-take k xs keep))

pub after-count : (world : World) (xs : List Entry) → KeepShape xs → count_below 32 (is_gone_after world xs) ≡ gone_count_now xs
after-count world xs keep = count_below-same 32 (is_gone_after world xs) (is_gone_now xs) (λ role. after-gone world role xs keep)

count-by : (world : World) (xs : List Entry) (k j : ℕ) → KeepShape xs → gone_count world xs k j ≡ gone_count_by xs k j
unfolding gone_count
count-by world xs k j keep = count_below-same 32 (is_gone world xs k j) (is_gone_by xs k j) (λ role. gone-by world role xs k j keep)

-- ---- unclean

surely-unsettled : (was : Bool) (xs : List Entry) → fold unsettled_surely was xs ≡ (was && not (list_any (λ e. settles e.event) xs) || is_unsettled xs)
surely-unsettled was [] = unchanged was
surely-unsettled was (x ∷ xs) =
    surely-unsettled (unsettled_surely was x) xs
    ∙ regroup was (settles x.event) (unsettles x.event) (list_any (λ e. settles e.event) xs) (is_unsettled xs)

perhaps-unsettled : (was : Bool) (xs : List Entry) → fold unsettled_perhaps was xs ≡ (was || list_any (λ e. unsettles e.event) xs)
perhaps-unsettled was [] = or-false was
perhaps-unsettled was (x ∷ xs) =
    perhaps-unsettled (unsettled_perhaps was x) xs ∙ or-assoc was (unsettles x.event) (list_any (λ e. unsettles e.event) xs)

unclean-written : (world : World) (xs : List Entry) (k j : ℕ) → is_unclean world xs k j ≡ (is_unsynced world (take k xs) || is_written xs k j)
unfolding is_unclean
unclean-written world xs k j =
    ap (λ b. is_unsynced world (take k xs) || b)
    (perhaps-unsettled (fold unsettled_surely false (take k xs)) (slice_range xs k j)
    ∙ ap (λ b. b || list_any (λ e. unsettles e.event) (slice_range xs k j)) (surely-unsettled false (take k xs)))

pub losses-gone : LossesAreGone
losses-gone world entries k j keep = record {
  gone = λ role. gone-by world role entries k j keep;
  count = count-by world entries k j keep;
  unclean = unclean-written world entries k j;
}

-- ---- the level

level-stays : (level : ℕ) (event : Event) → keeps_shape_event event ≡ true → level_after level event ≡ level
level-stays level (Step TakenOver left) keeps = absurd (cc)
level-stays level event keeps = refl

level-kept : (level : ℕ) (xs : List Entry) → KeepShape xs → fold (λ level e. level_after level e.event) level xs ≡ level
level-kept level [] keep = refl
level-kept level (x ∷ xs) keep =
    let parts : (keeps_shape_event x.event ≡ true) × KeepShape xs = keep-parts x xs keep in
    ap (λ n. fold (λ level e. level_after level e.event) n xs) (level-stays level x.event parts.0) ∙ level-kept level xs parts.1

pub same-level : (world : World) (xs : List Entry) → KeepShape xs → level_at world xs ≡ level_at world []
same-level world xs keep = level-kept (level_at world []) xs keep
