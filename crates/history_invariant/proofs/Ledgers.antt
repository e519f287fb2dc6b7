-- What judges a mark tells no less than the history, and than the call that runs.
use Rattle.std.proofs.Common.{◌≡◌, ℕ, ◌+◌, ◌-◌, ◌<◌, ◌&&◌, ◌||◌, Bool, true, false, not, List, [], ◌∷◌, ◌++◌, length, take, drop, slice_range, fold, refl, sym, ◌∙◌, ap, ap₂, subst, arith, length-append, append_assoc}
use Rattle.std.specs.List.{list_any}
use Rattle.std.proofs.Math.Seq.{take-append_seam, drop-append_seam, take-length}
use Rattle.std.proofs.lemmas.List.Folds.{list_any-append}
use Rattle.std.proofs.lemmas.List.Sums.{fold-append}
use Rattle.array_call_specs.specs.bank_Tape.{IsIn}
use Rattle.array_call_specs.specs.raid_types_Sectors.{Sector}
use Rattle.array_call_specs.specs.history_the_Entry.{Entry}
use Rattle.array_call_specs.specs.history_Flat.{length_of, values_of}
use Rattle.array_call_specs.specs.history_Losses.{loses, regains, gone_surely, gone_perhaps, is_gone, is_gone_after, was_dirty, is_resync_end, is_unsynced, settles, unsettles, unsettled_surely, unsettled_perhaps, is_unclean}
use Rattle.array_call_specs.specs.history_OneShape.{is_unsettled}
use Rattle.array_call_specs.specs.history_World.{World, opening_list}
use Rattle.array_call_specs.specs.crash_views_Views.{Ledger}
use Rattle.array_call_specs.specs.crash_safety_laws_Steady.{IsMoreTold}
use Rattle.array_call_specs.proofs.LedgerLaws.{judged_by, none-ends, unsynced-more}
use Rattle.history_invariant.specs.Safe.{TakesNone}
use Rattle.history_invariant.specs.Told.{told_now, told_by}
use Rattle.history_invariant.proofs.Tests.{neither, or-none, or-left, or-right, or-assoc, weaken, none-take, none-drop}

pub more-then : (told mid more : Ledger) → IsMoreTold told mid → IsMoreTold mid more → IsMoreTold told more
more-then told mid more first second = record {
  size = first.size ∙ second.size;
  values = λ x lt v may. second.values x (subst (λ (n : ℕ). x < n) first.size lt) v (first.values x lt v may);
  gone = λ role is. second.gone role (first.gone role is);
  unclean = λ is. second.unclean (first.unclean is);
  reshaping = λ is. second.reshaping (first.reshaping is);
  carried = λ slot number is. second.carried slot number (first.carried slot number is);
}

-- whatever reshape may be active in it, and whatever numbers are known
pub told-any : (world : World) (carried : ℕ → ℕ → Bool) (reshaping : Bool) (entries more : List Entry) → IsMoreTold (told_by world carried reshaping entries more) (told_by world (λ slot number. true) true entries more)
told-any world carried reshaping entries more = record { size = refl; values = λ x lt v may. may; gone = λ role is. is; unclean = λ is. is; reshaping = λ is. refl; carried = λ slot number is. refl }

-- ---- what is gone

module _ (world : World) (role : ℕ) where
  perhaps-any : (gone : Bool) (xs : List Entry) → fold (gone_perhaps world role) gone xs ≡ (gone || list_any (loses world role) xs)
  perhaps-any gone [] = sym (or-none gone false refl)
  perhaps-any gone (x ∷ xs) = perhaps-any (gone || loses world role x) xs ∙ or-assoc gone (loses world role x) (list_any (loses world role) xs)

  surely-any : (gone : Bool) (xs : List Entry) → fold (gone_surely world role) gone xs ≡ true → (gone || list_any (loses world role) xs) ≡ true
  surely-any gone [] is = or-left gone false is
  surely-any gone (x ∷ xs) is = weaken gone (regains world role x) (loses world role x) (list_any (loses world role) xs) (surely-any (gone && not (regains world role x) || loses world role x) xs is)

  -- where none is given back, what is gone perhaps is gone surely
  any-surely : (gone : Bool) (xs : List Entry) → list_any (regains world role) xs ≡ false → (gone || list_any (loses world role) xs) ≡ true → fold (gone_surely world role) gone xs ≡ true
  any-surely gone [] none is = sym (or-none gone false refl) ∙ is
  any-surely gone (x ∷ xs) none is =
      let parts = neither (regains world role x) (list_any (regains world role) xs) none in
      any-surely (gone && not (regains world role x) || loses world role x) xs parts.1
      (still gone (regains world role x) (loses world role x) (list_any (loses world role) xs) parts.0 is)
    where
      still : (was ends begins later : Bool) → ends ≡ false → (was || (begins || later)) ≡ true → ((was && not ends || begins) || later) ≡ true
      still was true begins later e is = absurd (cc)
      still true false begins later e is = refl
      still false false begins later e is = is

  surely-none : (xs : List Entry) → list_any (loses world role) xs ≡ false → fold (gone_surely world role) false xs ≡ false
  surely-none [] none = refl
  surely-none (x ∷ xs) none =
      let parts = neither (loses world role x) (list_any (loses world role) xs) none in
      ap (λ (b : Bool). fold (gone_surely world role) b xs) parts.0 ∙ surely-none xs parts.1

  -- behind more entries
  pub gone-behind : (xs ys : List Entry) → is_gone_after world (xs ++ ys) role ≡ fold (gone_surely world role) (is_gone_after world xs role) ys
  unfolding is_gone_after
  gone-behind xs ys = fold-append (gone_surely world role) false xs ys

  -- what is gone behind them was gone, or one of them takes it
  pub gone-any : (xs ys : List Entry) → is_gone_after world (xs ++ ys) role ≡ true → (is_gone_after world xs role || list_any (loses world role) ys) ≡ true
  gone-any xs ys is = surely-any (is_gone_after world xs role) ys (sym (gone-behind xs ys) ∙ is)

  -- and so the other way round, where none gives it back
  pub any-gone : (xs ys : List Entry) → list_any (regains world role) ys ≡ false → (is_gone_after world xs role || list_any (loses world role) ys) ≡ true → is_gone_after world (xs ++ ys) role ≡ true
  any-gone xs ys none is = gone-behind xs ys ∙ any-surely (is_gone_after world xs role) ys none is

-- where no entry takes a role, none is gone at any mark
pub none-gone : (world : World) (entries : List Entry) → TakesNone world entries → (k j role : ℕ) → is_gone world entries k j role ≡ false
unfolding is_gone
none-gone world entries none k j role =
    ap (λ (b : Bool). fold (gone_perhaps world role) b (slice_range entries k j)) (surely-none world role (take k entries) (none-take (loses world role) k entries (none role)))
    ∙ perhaps-any world role false (slice_range entries k j)
    ∙ none-take (loses world role) (j - k) (drop k entries) (none-drop (loses world role) k entries (none role))

-- ---- what is unclean

unsettled-is : (was : Bool) (xs : List Entry) → fold unsettled_surely was xs ≡ (was && not (list_any (λ e. settles e.event) xs) || is_unsettled xs)
unsettled-is was [] = same was
  where
    same : (b : Bool) → b ≡ (b && true || false)
    same true = refl
    same false = refl
unsettled-is was (x ∷ xs) = unsettled-is (unsettled_surely was x) xs ∙ regroup was (settles x.event) (unsettles x.event) (list_any (λ e. settles e.event) xs) (is_unsettled xs)
  where
    regroup : (was ends begins later rest : Bool) → ((was && not ends || begins) && not later || rest) ≡ (was && not (ends || later) || (begins && not later || rest))
    regroup true true true later rest = refl
    regroup true true false later rest = refl
    regroup true false true true rest = refl
    regroup true false true false rest = refl
    regroup true false false true rest = refl
    regroup true false false false rest = refl
    regroup false ends begins later rest = refl

unsettled-perhaps : (was : Bool) (xs : List Entry) → fold unsettled_perhaps was xs ≡ (was || list_any (λ e. unsettles e.event) xs)
unsettled-perhaps was [] = sym (or-none was false refl)
unsettled-perhaps was (x ∷ xs) = unsettled-perhaps (was || unsettles x.event) xs ∙ or-assoc was (unsettles x.event) (list_any (λ e. unsettles e.event) xs)

unsettled-any : (was : Bool) (xs : List Entry) → fold unsettled_surely was xs ≡ true → (was || list_any (λ e. unsettles e.event) xs) ≡ true
unsettled-any was [] is = or-left was false is
unsettled-any was (x ∷ xs) is = weaken was (settles x.event) (unsettles x.event) (list_any (λ e. unsettles e.event) xs) (unsettled-any (was && not (settles x.event) || unsettles x.event) xs is)

-- where none settles, what may be unsettled is so
any-unsettled : (was : Bool) (xs : List Entry) → list_any (λ e. settles e.event) xs ≡ false → (was || list_any (λ e. unsettles e.event) xs) ≡ true → fold unsettled_surely was xs ≡ true
any-unsettled was [] none is = sym (or-none was false refl) ∙ is
any-unsettled was (x ∷ xs) none is =
    let parts = neither (settles x.event) (list_any (λ e. settles e.event) xs) none in
    any-unsettled (was && not (settles x.event) || unsettles x.event) xs parts.1 (still was (settles x.event) (unsettles x.event) (list_any (λ e. unsettles e.event) xs) parts.0 is)
  where
    still : (was ends begins later : Bool) → ends ≡ false → (was || (begins || later)) ≡ true → ((was && not ends || begins) || later) ≡ true
    still was true begins later e is = absurd (cc)
    still true false begins later e is = refl
    still false false begins later e is = is

unsettled-behind : (xs ys : List Entry) → is_unsettled (xs ++ ys) ≡ fold unsettled_surely (is_unsettled xs) ys
unsettled-behind xs ys =
    sym (unsettled-is false (xs ++ ys)) ∙ fold-append unsettled_surely false xs ys ∙ ap (λ (b : Bool). fold unsettled_surely b ys) (unsettled-is false xs)

-- what wasn't resynced behind more entries wasn't before
unsynced-before : (world : World) (xs ys : List Entry) → is_unsynced world (xs ++ ys) ≡ true → is_unsynced world xs ≡ true
unsynced-before world xs ys is =
    first (was_dirty world) (list_any (λ e. is_resync_end e.event) xs) (list_any (λ e. is_resync_end e.event) ys)
    (ap (λ (b : Bool). was_dirty world && not b) (sym (list_any-append (λ e. is_resync_end e.event) xs ys)) ∙ is)
  where
    first : (dirty a b : Bool) → (dirty && not (a || b)) ≡ true → (dirty && not a) ≡ true
    first dirty true b e = e
    first true false b e = refl
    first false false b e = e

-- what may be unclean in a call is so behind it, where it settles nothing
pub unclean-now : (world : World) (entries more : List Entry) → list_any (λ e. settles e.event) more ≡ false → (is_unsynced world entries || (is_unsettled entries || list_any (λ e. unsettles e.event) more)) ≡ true
    → (is_unsynced world (entries ++ more) || is_unsettled (entries ++ more)) ≡ true
unclean-now world entries more settled is =
    ap (λ (a : Bool). a || is_unsettled (entries ++ more)) (unsynced-more world entries more (none-ends more settled))
    ∙ by (is_unsynced world entries) is
  where
    by : (a : Bool) → (a || (is_unsettled entries || list_any (λ e. unsettles e.event) more)) ≡ true → (a || is_unsettled (entries ++ more)) ≡ true
    by true is = refl
    by false is = unsettled-behind entries more ∙ any-unsettled (is_unsettled entries) more settled is

-- ---- a mark that is judged

module _ (world : World) (carried : ℕ → ℕ → Bool) (reshaping : Bool) where
  -- A mark at which a call's entries aren't made yet is judged by as much as it tells.
  pub told-ledger : (entries more rest : List Entry) → IsMoreTold (told_by world carried reshaping entries more) (judged_by world (entries ++ (more ++ rest)) (length entries) (length (entries ++ more)))
  unfolding is_gone is_gone_after is_unclean
  told-ledger entries more rest = record {
    size = ap (length_of (length (opening_list world))) (sym first);
    values = λ x lt v may. subst (λ (l : List Entry). IsIn (values_of (opening_list world) l x) v) (sym first) may;
    gone = λ role is. gone role ∙ is;
    unclean = λ is. unclean ∙ is;
    reshaping = λ is. refl;
    carried = λ slot number is. refl;
  }
    where
      first : take (length (entries ++ more)) (entries ++ (more ++ rest)) ≡ entries ++ more
      first = ap (take (length (entries ++ more))) (sym (append_assoc entries more rest)) ∙ take-append_seam (entries ++ more) rest

      count : length (entries ++ more) - length entries ≡ length more
      count = let both : length (entries ++ more) ≡ length entries + length more = length-append entries more in omega (arith, both)

      range : slice_range (entries ++ (more ++ rest)) (length entries) (length (entries ++ more)) ≡ more
      range = ap₂ (λ (n : ℕ) (l : List Entry). take n l) count (drop-append_seam entries (more ++ rest)) ∙ take-append_seam more rest

      gone : (role : ℕ) → is_gone world (entries ++ (more ++ rest)) (length entries) (length (entries ++ more)) role ≡ (is_gone_after world entries role || list_any (loses world role) more)
      gone role =
          (λ i. fold (gone_perhaps world role) (fold (gone_surely world role) false (take-append_seam entries (more ++ rest) i)) (range i))
          ∙ perhaps-any world role (fold (gone_surely world role) false entries) more

      unclean : is_unclean world (entries ++ (more ++ rest)) (length entries) (length (entries ++ more)) ≡ (is_unsynced world entries || (is_unsettled entries || list_any (λ e. unsettles e.event) more))
      unclean =
          (λ i. is_unsynced world (take-append_seam entries (more ++ rest) i) || fold unsettled_perhaps (fold unsettled_surely false (take-append_seam entries (more ++ rest) i)) (range i))
          ∙ ap (λ (b : Bool). is_unsynced world entries || b)
          (unsettled-perhaps (fold unsettled_surely false entries) more ∙ ap (λ (b : Bool). b || list_any (λ e. unsettles e.event) more) (unsettled-is false entries))

  -- And one at which each entry is made is judged by as much as the whole history tells.
  pub now-ledger : (entries : List Entry) → IsMoreTold (told_now world carried reshaping entries) (judged_by world entries (length entries) (length entries))
  unfolding is_gone is_gone_after is_unclean
  now-ledger entries = record {
    size = ap (length_of (length (opening_list world))) (sym (take-length entries));
    values = λ x lt v may. subst (λ (l : List Entry). IsIn (values_of (opening_list world) l x) v) (sym (take-length entries)) may;
    gone = λ role is. gone role ∙ is;
    unclean = λ is. unclean ∙ is;
    reshaping = λ is. refl;
    carried = λ slot number is. refl;
  }
    where
      none : (n : ℕ) → n - n ≡ 0
      none n = omega arith

      gone : (role : ℕ) → is_gone world entries (length entries) (length entries) role ≡ is_gone_after world entries role
      gone role = λ i. fold (gone_perhaps world role) (fold (gone_surely world role) false (take-length entries i)) (take (none (length entries) i) (drop (length entries) entries))

      unclean : is_unclean world entries (length entries) (length entries) ≡ (is_unsynced world entries || is_unsettled entries)
      unclean =
          (λ i. is_unsynced world (take-length entries i) || fold unsettled_perhaps (fold unsettled_surely false (take-length entries i)) (take (none (length entries) i) (drop (length entries) entries)))
          ∙ ap (λ (b : Bool). is_unsynced world entries || b) (unsettled-is false entries)

  -- ---- a call and its history

  -- the history with some entries tells no more than a call that may have made them
  pub now-told : (entries more : List Entry) → IsMoreTold (told_now world carried reshaping (entries ++ more)) (told_by world carried reshaping entries more)
  now-told entries more = record {
    size = refl;
    values = λ x lt v may. may;
    gone = λ role is. gone-any world role entries more is;
    unclean = λ is. by (is_unsynced world (entries ++ more)) (is_unsettled (entries ++ more)) is
        (unsynced-before world entries more) (λ was. unsettled-any (is_unsettled entries) more (sym (unsettled-behind entries more) ∙ was));
    reshaping = λ is. is;
    carried = λ slot number is. is;
  }
    where
      by : (a b : Bool) → (a || b) ≡ true → (a ≡ true → is_unsynced world entries ≡ true) → (b ≡ true → (is_unsettled entries || list_any (λ e. unsettles e.event) more) ≡ true)
          → (is_unsynced world entries || (is_unsettled entries || list_any (λ e. unsettles e.event) more)) ≡ true
      by true b is first second = or-left (is_unsynced world entries) (is_unsettled entries || list_any (λ e. unsettles e.event) more) (first refl)
      by false b is first second = or-right (is_unsynced world entries) (is_unsettled entries || list_any (λ e. unsettles e.event) more) (second is)

  -- and no less, where they give no role back and settle nothing
  pub told-now : (entries more : List Entry) → ((role : ℕ) → list_any (regains world role) more ≡ false) → list_any (λ e. settles e.event) more ≡ false
      → IsMoreTold (told_by world carried reshaping entries more) (told_now world carried reshaping (entries ++ more))
  told-now entries more gives settled = record {
    size = refl;
    values = λ x lt v may. may;
    gone = λ role is. any-gone world role entries more (gives role) is;
    unclean = λ is. unclean-now world entries more settled is;
    reshaping = λ is. is;
    carried = λ slot number is. is;
  }

-- A call tells more than the history before it, where its entries keep the length and each value that a sector may have.
pub told-more : (world : World) (old new : ℕ → ℕ → Bool) (was is_now : Bool) (entries more : List Entry) → length_of (length (opening_list world)) (entries ++ more) ≡ length_of (length (opening_list world)) entries
    → ((x : ℕ) (v : Sector) → IsIn (values_of (opening_list world) entries x) v → IsIn (values_of (opening_list world) (entries ++ more) x) v)
    → ((slot number : ℕ) → old slot number ≡ true → new slot number ≡ true) → (was ≡ true → is_now ≡ true) → IsMoreTold (told_now world old was entries) (told_by world new is_now entries more)
told-more world old new was is_now entries more sized adds carries turns = record {
  size = sym sized;
  values = λ x lt v may. adds x v may;
  gone = λ role is. or-left (is_gone_after world entries role) (list_any (loses world role) more) is;
  unclean = λ is. by (is_unsynced world entries) (is_unsettled entries) is;
  reshaping = turns;
  carried = carries;
}
  where
    by : (a b : Bool) → (a || b) ≡ true → (a || (b || list_any (λ e. unsettles e.event) more)) ≡ true
    by true b e = refl
    by false b e = or-left b (list_any (λ e. unsettles e.event) more) e
