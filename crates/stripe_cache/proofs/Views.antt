-- A cache's rows against its entries.
use Rattle.std.proofs.Common.{◌≡◌, ℕ, ◌-◌, ◌==◌, Bool, true, false, cond, not, if◌then◌else◌, List, [], ◌∷◌, length, take, map, Option, Some, None, is_some, IfSome, ◌*◌, refl, sym, ap, ap₂, ◌∙◌, subst, arith, bit_or, slice_get}
use Rattle.std.specs.Option.{option_map, option_map_or}
use Rattle.std.specs.List.{find, IsDistinct, AllByRecursion}
use Rattle.std.specs.Map.{keys_of, lookup, lookup_entry, remove_entry, set_value}
use Rattle.std.proofs.lemmas.Map.Keys.{IsDistinct-head, IsDistinct-tail}
use Rattle.std.proofs.lemmas.List.{take-map, length-map}
use Rattle.std.proofs.lemmas.Option.{slice_get-map}
use Rattle.std.proofs.lemmas.Bool.Decides.{nat_tests}
use Rattle.lru.proofs.CallerLemmas.{Contains-lookup_entry}
use Rattle.lru.specs.LruCache.{LruCache, lru_cache, promoted, put_entries, displaced}
use Rattle.raid_types.specs.declared.places.Side.{Side}
use Rattle.raid_types.specs.declared.places.Side.TheVariants.{Old, New}
use Rattle.stripe_cache.specs.contracts.key.KeyPartialEq.TheImpl as key_eq
use Rattle.stripe_cache.specs.declared.cached.Cached.{Cached}
use Rattle.stripe_cache.specs.declared.key.Key.{Key}
use Rattle.stripe_cache.specs.HeldRow.{HeldRow}
use Rattle.stripe_cache.specs.Rows.{Rows, is_row, held_row, without, used, kept, is_delayed, if_delayed, leaving}
use Rattle.stripe_cache.specs.View.{cached_of, rows_of, key_of}

-- the comparison of keys that the cache goes by
abbrev pub same_key : Key → Key → Bool
same_key = (key_eq.eq-value).it

-- a test of rows that tells what a test of their keys tells
module _ (p : Cached → Bool) (test : Key → Bool) (agrees : (e : Key × HeldRow) → p (cached_of e) ≡ test e.0) where
  find-map : (es : List (Key × HeldRow)) → find p (map cached_of es) ≡ option_map cached_of (lookup_entry test es)
  find-map [] = refl
  find-map (e ∷ es) = rw (agrees e) (by_test (test e.0) (find-map es))
    where
      by_test : (b : Bool) → find p (map cached_of es) ≡ option_map cached_of (lookup_entry test es)
          → cond b (Some (cached_of e)) (find p (map cached_of es)) ≡ option_map cached_of (cond b (Some e) (lookup_entry test es))
      by_test true ih = refl
      by_test false ih = ih

  without-map : (es : List (Key × HeldRow)) → without p (map cached_of es) ≡ map cached_of (remove_entry test es)
  without-map [] = refl
  without-map (e ∷ es) = rw (agrees e) (by_test (test e.0) (without-map es))
    where
      by_test : (b : Bool) → without p (map cached_of es) ≡ map cached_of (remove_entry test es)
          → cond b (map cached_of es) (cached_of e ∷ without p (map cached_of es)) ≡ map cached_of (cond b es (e ∷ remove_entry test es))
      by_test true ih = refl
      by_test false ih = ap (λ cs. cached_of e ∷ cs) ih

lookup-entry : (test : Key → Bool) (es : List (Key × HeldRow)) → lookup test es ≡ option_map (λ e. e.1) (lookup_entry test es)
lookup-entry test [] = refl
lookup-entry test (e ∷ es) = by_test (test e.0) (lookup-entry test es)
  where
    by_test : (b : Bool) → lookup test es ≡ option_map (λ e. e.1) (lookup_entry test es)
        → cond b (Some e.1) (lookup test es) ≡ option_map (λ e. e.1) (cond b (Some e) (lookup_entry test es))
    by_test true ih = refl
    by_test false ih = ih

pub is_row-key : (side : Side) (row : ℕ) (e : Key × HeldRow) → is_row side row (cached_of e) ≡ same_key (key_of side row) e.0
is_row-key side row e = by_side side e.0.is_new
  where
    by_side : (side : Side) (is_new : Bool) → is_row side row (record { side = if is_new then New else Old; row = e.0.row; body = e.1.body; changed = e.1.changed })
        ≡ same_key (key_of side row) (record { is_new = is_new; row = e.0.row })
    by_side Old true = refl
    by_side Old false = refl
    by_side New true = refl
    by_side New false = refl

pub held_row-entry : (side : Side) (row : ℕ) (es : List (Key × HeldRow)) (cap : ℕ)
    → held_row side row (rows_of es cap) ≡ option_map cached_of (lookup_entry (same_key (key_of side row)) es)
held_row-entry side row es cap = find-map (is_row side row) (same_key (key_of side row)) (is_row-key side row) es

-- a row that a look-up finds is held, and one that it doesn't find isn't
pub record IsFound (side : Side) (row : ℕ) (rows : Rows) (held : HeldRow) : Type 0 where
  pub cached : Cached
  pub is : held_row side row rows ≡ Some cached
  pub body : cached.body ≡ held.body
  pub changed : cached.changed ≡ held.changed

pub held_row-some : (side : Side) (row : ℕ) (es : List (Key × HeldRow)) (cap : ℕ) (held : HeldRow)
    → lookup (same_key (key_of side row)) es ≡ Some held → IsFound side row (rows_of es cap) held
held_row-some side row es cap held e = by_entry (lookup_entry (same_key (key_of side row)) es) (sym (lookup-entry (same_key (key_of side row)) es) ∙ e) (held_row-entry side row es cap)
  where
    by_entry : (o : Option (Key × HeldRow)) → option_map (λ e. e.1) o ≡ Some held → held_row side row (rows_of es cap) ≡ option_map cached_of o
        → IsFound side row (rows_of es cap) held
    by_entry None e f = absurd (cc)
    by_entry (Some entry) e f = let same : entry.1 ≡ held = cc in
        record { cached = cached_of entry; is = f; body = ap (λ h. h.body) same; changed = ap (λ h. h.changed) same }

pub held_row-none : (side : Side) (row : ℕ) (es : List (Key × HeldRow)) (cap : ℕ)
    → lookup (same_key (key_of side row)) es ≡ None → held_row side row (rows_of es cap) ≡ None
held_row-none side row es cap e = by_entry (lookup_entry (same_key (key_of side row)) es) (sym (lookup-entry (same_key (key_of side row)) es) ∙ e) (held_row-entry side row es cap)
  where
    by_entry : (o : Option (Key × HeldRow)) → option_map (λ e. e.1) o ≡ None → held_row side row (rows_of es cap) ≡ option_map cached_of o
        → held_row side row (rows_of es cap) ≡ None
    by_entry None e f = f
    by_entry (Some entry) e f = absurd (cc)

-- a use of a row
pub used-promoted : (side : Side) (row : ℕ) (es : List (Key × HeldRow)) (cap : ℕ)
    → rows_of (promoted (same_key (key_of side row)) es) cap ≡ used side row (rows_of es cap)
used-promoted side row es cap =
    by_entry (lookup_entry (same_key (key_of side row)) es) ∙ ap (λ o. let rows : Rows = record { held = option_map_or (λ c. c ∷ without (is_row side row) (map cached_of es)) o (map cached_of es); room = cap } in rows) (sym (held_row-entry side row es cap))
  where
    by_entry : (o : Option (Key × HeldRow))
        → (let rows : Rows = rows_of (option_map_or (λ e. e ∷ remove_entry (same_key (key_of side row)) es) o es) cap in rows)
        ≡ record { held = option_map_or (λ c. c ∷ without (is_row side row) (map cached_of es)) (option_map cached_of o) (map cached_of es); room = cap }
    by_entry None = refl
    by_entry (Some e) = ap (λ cs. let rows : Rows = record { held = cached_of e ∷ cs; room = cap } in rows)
        (sym (without-map (is_row side row) (same_key (key_of side row)) (is_row-key side row) es))

-- the same for a key that is known to be the row's, and rows that are known to be the entries'
module _ (side : Side) (row : ℕ) (key : Key) (es : List (Key × HeldRow)) (cap : ℕ) (rows : Rows) (key_is : key ≡ key_of side row) (rows_is : rows_of es cap ≡ rows) where
  pub found_in : (held : HeldRow) → lookup (same_key key) es ≡ Some held → IsFound side row rows held
  found_in held e = subst (λ rows. IsFound side row rows held) rows_is
      (held_row-some side row es cap held (ap (λ k. lookup (same_key k) es) (sym key_is) ∙ e))

  pub none_in : lookup (same_key key) es ≡ None → held_row side row rows ≡ None
  none_in e = subst (λ rows. held_row side row rows ≡ None) rows_is
      (held_row-none side row es cap (ap (λ k. lookup (same_key k) es) (sym key_is) ∙ e))

  pub used_in : (new : LruCache Key HeldRow) → new ≡ lru_cache (promoted (same_key key) es) cap → rows_of new.entries new.cap ≡ used side row rows
  used_in new e =
      ap (λ c. rows_of c.entries c.cap) e
      ∙ ap (λ k. rows_of (promoted (same_key k) es) cap) key_is
      ∙ used-promoted side row es cap ∙ ap (λ rows. used side row rows) rows_is

-- keys that compare as the same are one
same_parts : (x y : Bool) (m n : ℕ) → same_key (record { is_new = x; row = m }) (record { is_new = y; row = n }) ≡ true
    → (let key : Key = record { is_new = x; row = m } in key) ≡ record { is_new = y; row = n }
same_parts true true m n h = let e : m ≡ n = grind (arith, nat_tests) in ap (λ m. let key : Key = record { is_new = true; row = m } in key) e
same_parts false false m n h = let e : m ≡ n = grind (arith, nat_tests) in ap (λ m. let key : Key = record { is_new = false; row = m } in key) e
same_parts true false m n h = absurd (cc)
same_parts false true m n h = absurd (cc)

pub same_key-true : (a b : Key) → same_key a b ≡ true → a ≡ b
same_key-true a b h = same_parts a.is_new b.is_new a.row b.row h

self_parts : (x : Bool) (m : ℕ) → same_key (record { is_new = x; row = m }) (record { is_new = x; row = m }) ≡ true
self_parts true m = grind (arith, nat_tests)
self_parts false m = grind (arith, nat_tests)

pub same_key-self : (a : Key) → same_key a a ≡ true
same_key-self a = self_parts a.is_new a.row

side_of-key : (side : Side) (row : ℕ) → (if (key_of side row).is_new then New else Old) ≡ side
side_of-key Old row = refl
side_of-key New row = refl

row_of-key : (side : Side) (row : ℕ) → (key_of side row).row ≡ row
row_of-key Old row = refl
row_of-key New row = refl

-- the entry of this key, with another row in it
cached_of-key : (side : Side) (row : ℕ) (k : Key) (held : HeldRow) → k ≡ key_of side row
    → cached_of (k, held) ≡ record { side = side; row = row; body = held.body; changed = held.changed }
cached_of-key side row k held e =
    ap (λ k. cached_of (k, held)) e
    ∙ ap₂ (λ s r. let cached : Cached = record { side = s; row = r; body = held.body; changed = held.changed } in cached) (side_of-key side row) (row_of-key side row)

passed : (test : Key → Bool) (es : List (Key × HeldRow)) (e : Key × HeldRow) → lookup_entry test es ≡ Some e → test e.0 ≡ true
passed test es e h = (Contains-lookup_entry test es e h).1

-- a row that is held is replaced in its place
pub kept-held : (side : Side) (row : ℕ) (es : List (Key × HeldRow)) (cap changed : ℕ) (body : List (List ℕ)) (held : HeldRow)
    → lookup (same_key (key_of side row)) es ≡ Some held
    → rows_of (set_value (same_key (key_of side row)) (promoted (same_key (key_of side row)) es) (record { body = body; changed = bit_or held.changed changed })) cap
    ≡ kept (record { side = side; row = row; body = body; changed = changed }) (rows_of es cap)
kept-held side row es cap changed body held found =
    by_entry (lookup_entry (same_key (key_of side row)) es) refl (sym (lookup-entry (same_key (key_of side row)) es) ∙ found)
    ∙ ap (λ o. let rows : Rows = record {
      held = option_map_or (λ old. record { side = side; row = row; body = body; changed = bit_or old.changed changed } ∷ without (is_row side row) (map cached_of es)) o
          ((let cached : Cached = record { side = side; row = row; body = body; changed = changed } in cached) ∷ take (cap - 1) (map cached_of es));
      room = cap;
    } in rows)
    (sym (held_row-entry side row es cap))
  where
    value : (e : Key × HeldRow) (es' : List (Key × HeldRow)) (w : HeldRow) → same_key (key_of side row) e.0 ≡ true
        → map cached_of (set_value (same_key (key_of side row)) (e ∷ es') w) ≡ cached_of (e.0, w) ∷ map cached_of es'
    value e es' w h = rw h refl

    by_entry : (o : Option (Key × HeldRow)) → lookup_entry (same_key (key_of side row)) es ≡ o → option_map (λ e. e.1) o ≡ Some held
        → (let rows : Rows = rows_of (set_value (same_key (key_of side row)) (option_map_or (λ e. e ∷ remove_entry (same_key (key_of side row)) es) o es) (record { body = body; changed = bit_or held.changed changed })) cap in rows)
        ≡ record {
          held = option_map_or (λ old. record { side = side; row = row; body = body; changed = bit_or old.changed changed } ∷ without (is_row side row) (map cached_of es)) (option_map cached_of o)
              ((let cached : Cached = record { side = side; row = row; body = body; changed = changed } in cached) ∷ take (cap - 1) (map cached_of es));
          room = cap;
        }
    by_entry None there is = absurd (cc)
    by_entry (Some e) there is =
        let same : e.1 ≡ held = cc in
        let test : same_key (key_of side row) e.0 ≡ true = passed (same_key (key_of side row)) es e there in
        ap (λ cs. let rows : Rows = record { held = cs; room = cap } in rows)
        (value e (remove_entry (same_key (key_of side row)) es) (record { body = body; changed = bit_or held.changed changed }) test
        ∙ ap₂ (λ c cs. c ∷ cs)
        (cached_of-key side row e.0 (record { body = body; changed = bit_or held.changed changed }) (sym (same_key-true _ _ test))
        ∙ ap (λ h. let cached : Cached = record { side = side; row = row; body = body; changed = bit_or h.changed changed } in cached) (sym same))
        (sym (without-map (is_row side row) (same_key (key_of side row)) (is_row-key side row) es)))

absent_entry : (side : Side) (row : ℕ) (es : List (Key × HeldRow)) (cap : ℕ) → held_row side row (rows_of es cap) ≡ None → lookup_entry (same_key (key_of side row)) es ≡ None
absent_entry side row es cap h = by_entry (lookup_entry (same_key (key_of side row)) es) (sym (held_row-entry side row es cap) ∙ h)
  where
    by_entry : (o : Option (Key × HeldRow)) → option_map cached_of o ≡ None → o ≡ None
    by_entry None e = refl
    by_entry (Some e) h = absurd (cc)

-- a new row goes in front, and where the cache is full the last one leaves
pub kept-new : (side : Side) (row : ℕ) (es : List (Key × HeldRow)) (cap changed : ℕ) (body : List (List ℕ)) → held_row side row (rows_of es cap) ≡ None
    → rows_of (put_entries same_key (lru_cache es cap) (key_of side row) (record { body = body; changed = changed })) cap
    ≡ kept (record { side = side; row = row; body = body; changed = changed }) (rows_of es cap)
kept-new side row es cap changed body absent =
    ap (λ o. let rows : Rows = rows_of (option_map_or (λ e. (e.0, w) ∷ remove_entry (same_key (key_of side row)) es) o ((key_of side row, w) ∷ take (cap - 1) es)) cap in rows) (absent_entry side row es cap absent)
    ∙ ap₂ (λ c cs. let rows : Rows = record { held = c ∷ cs; room = cap } in rows) (cached_of-key side row (key_of side row) w refl) (sym (take-map cached_of (cap - 1) es))
    ∙ ap (λ o. let rows : Rows = record {
      held = option_map_or (λ old. record { side = side; row = row; body = body; changed = bit_or old.changed changed } ∷ without (is_row side row) (map cached_of es)) o
          ((let cached : Cached = record { side = side; row = row; body = body; changed = changed } in cached) ∷ take (cap - 1) (map cached_of es));
      room = cap;
    } in rows)
    (sym absent)
  where
    w : HeldRow
    w = record { body = body; changed = changed }

pub leaving-new : (side : Side) (row : ℕ) (es : List (Key × HeldRow)) (cap changed : ℕ) (body : List (List ℕ)) → held_row side row (rows_of es cap) ≡ None
    → leaving (record { side = side; row = row; body = body; changed = changed }) (rows_of es cap)
    ≡ if_delayed (option_map cached_of (displaced same_key (lru_cache es cap) (key_of side row) (record { body = body; changed = changed })))
leaving-new side row es cap changed body absent =
    ap (λ o. option_map_or (λ old. None) o (if_delayed (slice_get (map cached_of es) (cap - 1)))) absent
    ∙ ap (λ o. if_delayed o) (slice_get-map cached_of es (cap - 1))
    ∙ ap (λ o. if_delayed (option_map cached_of (option_map_or (λ old. Some (key_of side row, old)) o (slice_get es (cap - 1)))))
    (sym (lookup-entry (same_key (key_of side row)) es ∙ ap (λ o. option_map (λ e. e.1) o) (absent_entry side row es cap absent)))

-- the same for a key that is known to be the row's, and rows that are known to be the cache's
module _ (side : Side) (row changed : ℕ) (body : List (List ℕ)) (key : Key) (old : LruCache Key HeldRow) (rows : Rows) (key_is : key ≡ key_of side row) (rows_is : rows_of old.entries old.cap ≡ rows) where
  pub replaced_in : (held w : HeldRow) → lookup (same_key key) old.entries ≡ Some held → w ≡ record { body = body; changed = bit_or held.changed changed }
      → (new : LruCache Key HeldRow) → new ≡ lru_cache (set_value (same_key key) (promoted (same_key key) old.entries) w) old.cap
      → rows_of new.entries new.cap ≡ kept (record { side = side; row = row; body = body; changed = changed }) rows
  replaced_in held w found w_is new e =
      ap (λ c. rows_of c.entries c.cap) e
      ∙ ap (λ k. rows_of (set_value (same_key k) (promoted (same_key k) old.entries) w) old.cap) key_is
      ∙ ap (λ w. rows_of (set_value (same_key (key_of side row)) (promoted (same_key (key_of side row)) old.entries) w) old.cap) w_is
      ∙ kept-held side row old.entries old.cap changed body held (ap (λ k. lookup (same_key k) old.entries) (sym key_is) ∙ found)
      ∙ ap (λ rows. kept (record { side = side; row = row; body = body; changed = changed }) rows) rows_is

  absent_in : held_row side row rows ≡ None → held_row side row (rows_of old.entries old.cap) ≡ None
  absent_in h = ap (λ rows. held_row side row rows) rows_is ∙ h

  pub inserted_in : (w : HeldRow) → held_row side row rows ≡ None → w ≡ record { body = body; changed = changed }
      → (new : LruCache Key HeldRow) → new ≡ lru_cache (put_entries same_key old key w) old.cap
      → rows_of new.entries new.cap ≡ kept (record { side = side; row = row; body = body; changed = changed }) rows
  inserted_in w absent w_is new e =
      ap (λ c. rows_of c.entries c.cap) e
      ∙ ap (λ k. rows_of (put_entries same_key old k w) old.cap) key_is
      ∙ ap (λ w. rows_of (put_entries same_key old (key_of side row) w) old.cap) w_is
      ∙ kept-new side row old.entries old.cap changed body (absent_in absent)
      ∙ ap (λ rows. kept (record { side = side; row = row; body = body; changed = changed }) rows) rows_is

  pub leaving_in : (w : HeldRow) → held_row side row rows ≡ None → w ≡ record { body = body; changed = changed }
      → (left : Option (Key × HeldRow)) → left ≡ displaced same_key old key w
      → leaving (record { side = side; row = row; body = body; changed = changed }) rows ≡ if_delayed (option_map cached_of left)
  leaving_in w absent w_is left e =
      ap (λ rows. leaving (record { side = side; row = row; body = body; changed = changed }) rows) (sym rows_is)
      ∙ leaving-new side row old.entries old.cap changed body (absent_in absent)
      ∙ ap (λ w. if_delayed (option_map cached_of (displaced same_key old (key_of side row) w))) (sym w_is)
      ∙ ap (λ k. if_delayed (option_map cached_of (displaced same_key old k w))) (sym key_is)
      ∙ ap (λ left. if_delayed (option_map cached_of left)) (sym e)

-- what is asked of the length of the row at hand
pub found_length : (side : Side) (row : ℕ) (rows : Rows) (held : HeldRow) (n : ℕ) → IsFound side row rows held
    → IfSome (held_row side row rows) (λ cached. n ≡ 512 * length cached.body) → n ≡ 512 * length held.body
found_length side row rows held n found asked =
    let there : IfSome (Some found.cached) (λ cached. n ≡ 512 * length cached.body) = subst (λ o. IfSome o (λ cached. n ≡ 512 * length cached.body)) found.is asked in
    there ∙ ap (λ body. 512 * length body) found.body

-- the key of a row that an entry is
key_parts : (x : Bool) (m : ℕ) → key_of (if x then New else Old) m ≡ record { is_new = x; row = m }
key_parts true m = refl
key_parts false m = refl

pub key_of-cached_of : (e : Key × HeldRow) → key_of (cached_of e).side (cached_of e).row ≡ e.0
key_of-cached_of e = key_parts e.0.is_new e.0.row

-- no key stands twice
all_at : (P : Key → Type 0) (test : Key → Bool) (es : List (Key × HeldRow)) (e : Key × HeldRow) → AllByRecursion P (keys_of es) → lookup_entry test es ≡ Some e → P e.0
all_at P test [] e all h = absurd (cc)
all_at P test (f ∷ es) e all h = by_test (test f.0) all h (λ h. all_at P test es e all.1 h)
  where
    by_test : (b : Bool) → AllByRecursion P (keys_of (f ∷ es)) → cond b (Some f) (lookup_entry test es) ≡ Some e → (lookup_entry test es ≡ Some e → P e.0) → P e.0
    by_test true all h further = let same : f ≡ e = cc in subst (λ e. P e.0) same all.0
    by_test false all h further = further h

-- a row that is found by any test is found by its key too
pub record IsEntry (p : Cached → Bool) (es : List (Key × HeldRow)) (row : Cached) : Type 0 where
  pub entry : Key × HeldRow
  pub is : row ≡ cached_of entry
  pub found : lookup_entry (same_key entry.0) es ≡ Some entry
  pub rest : without p (map cached_of es) ≡ map cached_of (remove_entry (same_key entry.0) es)

pub find-entry : (p : Cached → Bool) (es : List (Key × HeldRow)) (row : Cached) → IsDistinct same_key (keys_of es) → find p (map cached_of es) ≡ Some row → IsEntry p es row
find-entry p [] row distinct h = absurd (cc)
find-entry p (f ∷ es) row distinct h = by_test (p (cached_of f)) refl h (λ h. find-entry p es row (IsDistinct-tail same_key f.0 (keys_of es) distinct) h)
  where
    here : (b : Bool) → b ≡ true → cond b (Some f) (lookup_entry (same_key f.0) es) ≡ Some f
    here b t = rw t refl

    removed : (b : Bool) → b ≡ true → map cached_of es ≡ map cached_of (cond b es (f ∷ remove_entry (same_key f.0) es))
    removed b t = rw t refl

    other : (e : Key × HeldRow) → lookup_entry (same_key e.0) es ≡ Some e → same_key e.0 f.0 ≡ false
    other e found = by_value (same_key e.0 f.0) refl
      where
        by_value : (b : Bool) → same_key e.0 f.0 ≡ b → same_key e.0 f.0 ≡ false
        by_value false t = t
        by_value true t =
            let same : e.0 ≡ f.0 = same_key-true e.0 f.0 t in
            let apart : same_key f.0 e.0 ≡ false = all_at (λ k. same_key f.0 k ≡ false) (same_key e.0) es e (IsDistinct-head same_key f.0 (keys_of es) distinct) found in
            absurd (never (sym (same_key-self f.0) ∙ ap (λ k. same_key f.0 k) (sym same) ∙ apart))
          where
            never : true ≡ false → ⊥
            never h = cc

    by_test : (b : Bool) → p (cached_of f) ≡ b → cond b (Some (cached_of f)) (find p (map cached_of es)) ≡ Some row → (find p (map cached_of es) ≡ Some row → IsEntry p es row)
        → IsEntry p (f ∷ es) row
    by_test true t h further = record {
      entry = f;
      is = inner (cached_of f) row h;
      found = here (same_key f.0 f.0) (same_key-self f.0);
      rest = ap (λ b. cond b (map cached_of es) (cached_of f ∷ without p (map cached_of es))) t ∙ removed (same_key f.0 f.0) (same_key-self f.0);
    }
      where
        inner : (a b : Cached) → Some a ≡ Some b → b ≡ a
        inner a b h = cc
    by_test false t h further = let later : IsEntry p es row = further h in record {
      entry = later.entry;
      is = later.is;
      found = ap (λ b. cond b (Some f) (lookup_entry (same_key later.entry.0) es)) (other later.entry later.found) ∙ later.found;
      rest = ap (λ b. cond b (map cached_of es) (cached_of f ∷ without p (map cached_of es))) t
          ∙ ap (λ cs. cached_of f ∷ cs) later.rest
          ∙ ap (λ b. map cached_of (cond b es (f ∷ remove_entry (same_key later.entry.0) es))) (sym (other later.entry later.found));
    }

-- without one that passes, all stay
pub without-none : (p : Cached → Bool) (cs : List Cached) → find p cs ≡ None → without p cs ≡ cs
without-none p [] h = refl
without-none p (c ∷ cs) h = by_test (p c) h (λ h. without-none p cs h)
  where
    by_test : (b : Bool) → cond b (Some c) (find p cs) ≡ None → (find p cs ≡ None → without p cs ≡ cs) → cond b cs (c ∷ without p cs) ≡ c ∷ cs
    by_test true h further = absurd (cc)
    by_test false h further = ap (λ cs. c ∷ cs) (further h)

-- the entry of the first row that passes, by its key
pub record IsTaken (p : Cached → Bool) (key : Key) (old : LruCache Key HeldRow) (rows : Rows) : Type 0 where
  pub entry : Key × HeldRow
  pub found : lookup_entry (same_key key) old.entries ≡ Some entry
  pub row : find p rows.held ≡ Some (cached_of entry)
  pub rest : rows_of (remove_entry (same_key key) old.entries) old.cap ≡ record rows { held = without p rows.held }

pub taken : (p : Cached → Bool) (key : Key) (old : LruCache Key HeldRow) (rows : Rows) → rows_of old.entries old.cap ≡ rows → IsDistinct same_key (keys_of old.entries)
    → Some key ≡ option_map (λ row. key_of row.side row.row) (find p rows.held) → IsTaken p key old rows
taken p key old rows rows_is distinct key_is =
    subst (λ rows. Some key ≡ option_map (λ row. key_of row.side row.row) (find p rows.held) → IsTaken p key old rows) rows_is
    (λ e. by_row (find p (map cached_of old.entries)) refl e) key_is
  where
    by_row : (o : Option Cached) → find p (map cached_of old.entries) ≡ o → Some key ≡ option_map (λ row. key_of row.side row.row) o
        → IsTaken p key old (rows_of old.entries old.cap)
    by_row None found e = absurd (cc)
    by_row (Some row) found e =
        let entry : IsEntry p old.entries row = find-entry p old.entries row distinct found in
        let same : key ≡ key_of row.side row.row = cc in
        let key_is : key ≡ entry.entry.0 = same ∙ ap (λ row. key_of row.side row.row) entry.is ∙ key_of-cached_of entry.entry in
        record {
          entry = entry.entry;
          found = ap (λ k. lookup_entry (same_key k) old.entries) key_is ∙ entry.found;
          row = found ∙ ap (λ row. Some row) entry.is;
          rest = ap (λ k. rows_of (remove_entry (same_key k) old.entries) old.cap) key_is
              ∙ ap (λ held. let rows : Rows = record { held = held; room = old.cap } in rows) (sym entry.rest);
        }

-- no key, no such row
pub untaken : (p : Cached → Bool) (rows : Rows) → option_map (λ row. key_of row.side row.row) (find p rows.held) ≡ None
    → (find p rows.held ≡ None) × (rows ≡ record rows { held = without p rows.held })
untaken p rows h =
    let none : find p rows.held ≡ None = by_row (find p rows.held) h in
    (none, ap (λ held. record rows { held = held }) (sym (without-none p rows.held none)))
  where
    by_row : (o : Option Cached) → option_map (λ row. key_of row.side row.row) o ≡ None → o ≡ None
    by_row None e = refl
    by_row (Some row) e = absurd (cc)

-- an entry in front that passes is the first one
pub first-passes : (p : Cached → Bool) (k : Key) (h : HeldRow) (rest es : List (Key × HeldRow)) (found : Option Cached) → es ≡ (k, h) ∷ rest
    → find p (map cached_of es) ≡ found → p (cached_of (k, h)) ≡ true → Some k ≡ option_map (λ row. key_of row.side row.row) found
first-passes p k h rest es found e f passes =
    ap (λ k. Some k) (sym (key_of-cached_of (k, h)))
    ∙ ap (λ o. option_map (λ row. key_of row.side row.row) o)
    (sym (front (p (cached_of (k, h))) (cached_of (k, h)) (map cached_of rest) passes) ∙ ap (λ es. find p (map cached_of es)) (sym e) ∙ f)
  where
    front : (b : Bool) (c : Cached) (cs : List Cached) → b ≡ true → cond b (Some c) (find p cs) ≡ Some c
    front b c cs t = rw t refl

-- one that doesn't is passed over
pub first-later : (p : Cached → Bool) (k : Key) (h : HeldRow) (rest es : List (Key × HeldRow)) (found : Option Cached) → es ≡ (k, h) ∷ rest
    → find p (map cached_of es) ≡ found → p (cached_of (k, h)) ≡ false → find p (map cached_of rest) ≡ found
first-later p k h rest es found e f fails =
    sym (front (p (cached_of (k, h))) fails) ∙ ap (λ es. find p (map cached_of es)) (sym e) ∙ f
  where
    front : (b : Bool) → b ≡ false → cond b (Some (cached_of (k, h))) (find p (map cached_of rest)) ≡ find p (map cached_of rest)
    front b t = rw t refl

-- whether a row is held, by its key
pub held-is : (side : Side) (row : ℕ) (key : Key) (es : List (Key × HeldRow)) (cap : ℕ) (rows : Rows) → key ≡ key_of side row → rows_of es cap ≡ rows
    → is_some (lookup (same_key key) es) ≡ is_some (held_row side row rows)
held-is side row key es cap rows key_is rows_is = by_value (lookup (same_key key) es) refl
  where
    by_value : (o : Option HeldRow) → lookup (same_key key) es ≡ o → is_some o ≡ is_some (held_row side row rows)
    by_value None e = sym (ap (λ o. is_some o) (none_in side row key es cap rows key_is rows_is e))
    by_value (Some held) e = sym (ap (λ o. is_some o) (found_in side row key es cap rows key_is rows_is held e).is)

-- how many rows are held
pub held-count : (es : List (Key × HeldRow)) (cap : ℕ) (rows : Rows) → rows_of es cap ≡ rows → length rows.held ≡ length es
held-count es cap rows rows_is = ap (λ rows. length rows.held) (sym rows_is) ∙ length-map es cached_of
