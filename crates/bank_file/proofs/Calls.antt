-- A call on one image of several.
use Rattle.std.proofs.Common.{◌≡◌, ◌⊎◌, inl, inr, ℕ, ◌+◌, ◌-◌, ◌*◌, ◌/◌, ◌^◌, ◌<◌, ◌≤◌, List, [], ◌∷◌, ◌++◌, length, map, take, get_or, set, None, Result, Ok, Err, IsOk, IsErr, OnOk, OnErr, refl, sym, ◌∙◌, ap, subst, arith, length-set, get_or-set_same, get_or-set_other}
use Rattle.std.proofs.Math.Seq.{map-set_same}
use Rattle.std.proofs.lemmas.Bool.{cases_eq, cases_lt}
use Rattle.std.proofs.lemmas.List.{map-set, get_or-map, length-map}
use Rattle.std.specs.Prelude.{slice_index}
use Rattle.bank.specs.declared.bank.Operation.{Operation}
use Rattle.bank.specs.declared.bank.Operation.TheVariants.{Flush}
use Rattle.bank.specs.Given.{HasCause}
use Rattle.bank.specs.Tape.{writes, contents, AreSectors, Did}
use Rattle.bank.specs.Whole.{HasWholeSectors}
use Rattle.bank.proofs.Calls.{did_ok, did_nothing}
use Rattle.bank.proofs.Present.{writes_all}
use Rattle.bank_file.specs.Bytes.{AreBytes, IsPut, AreSame}
use Rattle.bank_file.specs.Counted.{IsCounted}
use Rattle.bank_file.specs.Logs.{Log, IsLogged, IsSynced, AreKept}
use Rattle.bank_file.specs.Images.{Files, sector_in, bytes_at, log_at, tape_of, given_of, tape_in, faults_in, IsConsistent, IsKept}
use Rattle.bank_file.specs.declared.image.Image.{Image}
use Rattle.bank_file.proofs.Tapes.{tape-kept}
use Rattle.bank_file.proofs.Consistent.{sector-whole, read_step, flush_step, flush_tape, write_step, write_tape, read_sectors}

pub at_ok : {T E P : Type 0} (r : Result T E) → OnOk r P → IsOk r → P
at_ok (Ok x) p ok = p
at_ok (Err e) p ok = absurd cc

pub on_ok : {T E P Q : Type 0} (r : Result T E) → OnOk r P → (P → Q) → OnOk r Q
on_ok (Ok x) p more = more p
on_ok (Err e) p more = tt

-- ---- the count of failures

-- a failure raises it, up to u64's end
pub higher : {T E : Type 0} (before after : ℕ) (result : Result T E) → IsCounted before after result → IsErr result → (before < after) ⊎ (before ≡ 2 ^ 64 - 1)
higher before after result counted err = let failed = counted.failed err in elim (cases_lt before (2 ^ 64 - 1)) [
  | inl below ↦ inl (omega (arith, failed, below))
  | inr past ↦ inr (omega (arith, past, failed, counted.never_falls))
]

-- a file that failed before fails again
pub no_pardon : {T E : Type 0} (before after : ℕ) (result : Result T E) → IsCounted before after result → 0 < before → IsErr result
no_pardon before after (Ok x) counted failed = let done = counted.done refl in absurd (omega (arith, done.0, failed))
no_pardon before after (Err e) counted failed = refl

-- the counts of all slots, where one of them is counted
pub one_counted : {T E : Type 0} (counts : List ℕ) (slot before after : ℕ) (result : Result T E) → slot < length counts → get_or counts slot 0 ≡ before
    → IsCounted before after result → HasCause slot (slice_index counts) (slice_index (set counts slot after)) result
one_counted counts slot before after result known is counted = record {
  never_falls = λ s. elim (cases_eq s slot) [
    | inl same ↦ let old = ap (λ (j : ℕ). get_or counts j 0) same in let new = ap (λ (j : ℕ). get_or (set counts slot after) j 0) same in omega (arith, old, new, here, is, counted.never_falls)
    | inr apart ↦ let same = get_or-set_other counts slot s after 0 apart in omega (arith, same)
  ];
  others = λ s apart. get_or-set_other counts slot s after 0 apart;
  failed = λ err. risen (higher before after result counted err);
  stays_failed = λ failed. no_pardon before after result counted (omega (arith, is, failed));
}
  where
    here : get_or (set counts slot after) slot 0 ≡ after
    here = get_or-set_same counts slot after 0 known

    risen : (before < after) ⊎ (before ≡ 2 ^ 64 - 1) → (get_or counts slot 0 < get_or (set counts slot after) slot 0) ⊎ (get_or counts slot 0 ≡ 2 ^ 64 - 1)
    risen (inl rose) = inl (omega (arith, rose, is, here))
    risen (inr ended) = inr (omega (arith, ended, is))

-- ---- images as the code has them

module _ {D : Type 0} (images : List (Image D)) (ops slot : ℕ) (old new : Image D) (files : Files D) (seen : (let now : Files D = record { images = images; ops = ops } in now ≡ files)) (known : slot < length files.images) (is : old ≡ get_or images slot old) where
  in_images : slot < length images
  in_images = let as_many = ap (λ (f : Files D). length f.images) seen in omega (arith, known, as_many)

  pub image_cause : {T E : Type 0} (ops' : ℕ) (result : Result T E) → IsCounted old.faults new.faults result
      → HasCause slot (faults_in files) (slice_index (map (λ (image : Image D). image.faults) (set images slot new))) result
  image_cause {T} {E} ops' result counted =
      subst (λ (f : Files D). HasCause slot (faults_in f) (slice_index (map (λ (image : Image D). image.faults) (set images slot new))) result) seen
      (rw (map-set (λ (image : Image D). image.faults) images slot new)
      (one_counted (map (λ (image : Image D). image.faults) images) slot old.faults new.faults result (omega (arith, in_images, length-map images (λ (image : Image D). image.faults))) here counted))
    where
      here : get_or (map (λ (image : Image D). image.faults) images) slot 0 ≡ old.faults
      here = get_or-map (λ (image : Image D). image.faults) images slot old 0 in_images ∙ ap (λ (image : Image D). image.faults) (sym is)

  module _ (start : D → ℕ → ℕ) (sectors : new.sectors ≡ old.sectors) (started : start new.device ≡ start old.device) where
    starts : map (λ (image : Image D). start image.device) (set images slot new) ≡ map (λ (image : Image D). start image.device) images
    starts = map-set_same (λ (image : Image D). start image.device) images slot new old (started ∙ ap (λ (image : Image D). start image.device) is)

    pub image_given : (ops' : ℕ) → given_of start (record { images = set images slot new; ops = ops' }) ≡ given_of start files
    image_given ops' =
        let kept : map (λ (image : Image D). image.sectors) (set images slot new) ≡ map (λ (image : Image D). image.sectors) images
        = map-set_same (λ (image : Image D). image.sectors) images slot new old (sectors ∙ ap (λ (image : Image D). image.sectors) is) in
        let as_many = length-set images slot new in
        let same : given_of start (record { images = set images slot new; ops = ops' }) ≡ given_of start (record { images = images; ops = ops }) =
        (λ i. record { slots = as_many i; sectors = slice_index (kept i); start = λ s. sector_in (bytes_at (starts i) s) }) in
        same ∙ ap (λ (f : Files D). given_of start f) seen

    module _ {tells : Type 0} (bytes : D → ℕ → ℕ) (log : D → Log) (was : IsKept tells start bytes log images ops) where
      abbrev S : List (ℕ → ℕ)
      S = map (λ image. start image.device) images

      abbrev B : List (ℕ → ℕ)
      B = map (λ image. bytes image.device) images

      abbrev L : List Log
      L = map (λ image. log image.device) images

      bytes_here : bytes_at B slot ≡ bytes old.device
      bytes_here = get_or-map (λ (image : Image D). bytes image.device) images slot old (λ i. 0) in_images ∙ ap (λ (image : Image D). bytes image.device) (sym is)

      log_here : log_at L slot ≡ log old.device
      log_here = get_or-map (λ (image : Image D). log image.device) images slot old (λ i. None) in_images ∙ ap (λ (image : Image D). log image.device) (sym is)

      in_logs : slot < length L
      in_logs = omega (arith, in_images, length-map images (λ (image : Image D). log image.device))

      as_many : length B ≡ length L
      as_many = length-map images (λ (image : Image D). bytes image.device) ∙ sym (length-map images (λ (image : Image D). log image.device))

      logs_new : map (λ (image : Image D). log image.device) (set images slot new) ≡ set L slot (log new.device)
      logs_new = map-set (λ (image : Image D). log image.device) images slot new

      settled : (ops' : ℕ) → (tells → IsConsistent S (set B slot (bytes new.device)) (set L slot (log new.device)) ops') → IsKept tells start bytes log (set images slot new) ops'
      settled ops' now = record {
        few = let as_many = length-set images slot new in omega (arith, as_many, was.few);
        told = λ told.
            subst (λ (l : List (ℕ → ℕ)). IsConsistent l (map (λ (image : Image D). bytes image.device) (set images slot new)) (map (λ (image : Image D). log image.device) (set images slot new)) ops') (sym starts)
            (subst (λ (l : List (ℕ → ℕ)). IsConsistent S l (map (λ (image : Image D). log image.device) (set images slot new)) ops') (sym (map-set (λ (image : Image D). bytes image.device) images slot new))
            (subst (λ (l : List Log). IsConsistent S (set B slot (bytes new.device)) l ops') (sym logs_new) (now told)));
      }

      same_here : (tells → AreSame (bytes old.device) (bytes new.device)) → tells → AreSame (bytes_at B slot) (bytes new.device)
      same_here same told = subst (λ (f : ℕ → ℕ). AreSame f (bytes new.device)) (sym bytes_here) (same told)

      -- ---- a read, or a call that failed

      pub image_kept : (tells → AreSame (bytes old.device) (bytes new.device)) → (tells → AreKept (log old.device) (log new.device)) → IsKept tells start bytes log (set images slot new) ops
      image_kept same kept = settled ops (λ told. read_step S B L ops slot (was.told told) in_logs as_many (bytes new.device) (log new.device) (same_here same told) (subst (λ (f : Log). AreKept f (log new.device)) (sym log_here) (kept told)))

      -- the tape stays
      pub image_tape : (tells → AreKept (log old.device) (log new.device)) → tells → tape_in log (record { images = set images slot new; ops = ops }) ≡ tape_in log files
      image_tape kept told =
          ap (λ (l : List Log). tape_of l ops) logs_new
          ∙ tape-kept L slot (log new.device) ops (subst (λ (f : Log). AreKept f (log new.device)) (sym log_here) (kept told))
          ∙ ap (λ (f : Files D). tape_in log f) seen

      pub image_read : (at count : ℕ) (into : List ℕ) → length into ≡ count → (tells → AreBytes (bytes old.device) (512 * at) count into) → tells
          → AreSectors (contents (given_of start files).start (tape_in log files) (length (tape_in log files)) slot) at into
      image_read at count into long read told = subst (λ (f : Files D). AreSectors (contents (given_of start f).start (tape_in log f) (length (tape_in log f)) slot) at into) seen
          (read_sectors S B L ops slot (was.told told) in_logs as_many at into (subst (λ (f : ℕ → ℕ). AreBytes f (512 * at) (length into) into) (sym bytes_here) (subst (λ (n : ℕ). AreBytes (bytes old.device) (512 * at) n into) (sym long) (read told))))

      -- ---- a flush

      pub image_flushed : (ops' : ℕ) → ops' ≡ ops + 1 → (tells → AreSame (bytes old.device) (bytes new.device)) → (tells → IsSynced (log old.device) (log new.device) ops) → IsKept tells start bytes log (set images slot new) ops'
      image_flushed ops' next same synced = subst (λ (n : ℕ). IsKept tells start bytes log (set images slot new) n) (sym next) (settled (ops + 1) (λ told.
          flush_step S B L ops slot (was.told told) in_logs as_many (bytes new.device) (log new.device) (same_here same told) (subst (λ (f : Log). IsSynced f (log new.device) ops) (sym log_here) (synced told))))

      pub image_flush : (ops' : ℕ) → ops' ≡ ops + 1 → (tells → IsSynced (log old.device) (log new.device) ops) → tells
          → tape_in log (record { images = set images slot new; ops = ops' }) ≡ tape_in log files ++ Flush slot ∷ []
      image_flush ops' next synced told =
          (λ i. tape_of (logs_new i) (next i)) ∙ flush_tape S B L ops slot (was.told told) in_logs as_many (log new.device) (subst (λ (f : Log). IsSynced f (log new.device) ops) (sym log_here) (synced told))
          ∙ ap (λ (f : Files D). tape_in log f ++ Flush slot ∷ []) seen

      module _ {T E : Type 0} (ops' : ℕ) (result : Result T E) (done : OnOk result (ops' ≡ ops + 1)) (stays : OnErr result (ops' ≡ ops)) (same : tells → AreSame (bytes old.device) (bytes new.device))
          (synced : OnOk result (tells → IsSynced (log old.device) (log new.device) ops)) (kept : OnErr result (tells → AreKept (log old.device) (log new.device))) where
        pub image_flush_kept : IsKept tells start bytes log (set images slot new) ops'
        image_flush_kept = by result done stays synced kept
          where
            by : (r : Result T E) → OnOk r (ops' ≡ ops + 1) → OnErr r (ops' ≡ ops) → OnOk r (tells → IsSynced (log old.device) (log new.device) ops) → OnErr r (tells → AreKept (log old.device) (log new.device))
                → IsKept tells start bytes log (set images slot new) ops'
            by (Ok x) next none synced kept = image_flushed ops' next same synced
            by (Err e) next none synced kept = subst (λ (n : ℕ). IsKept tells start bytes log (set images slot new) n) (sym none) (image_kept same kept)

        pub image_flush_err : OnErr result (tells → tape_in log (record { images = set images slot new; ops = ops' }) ≡ tape_in log files)
        image_flush_err = by result stays kept
          where
            by : (r : Result T E) → OnErr r (ops' ≡ ops) → OnErr r (tells → AreKept (log old.device) (log new.device)) → OnErr r (tells → tape_in log (record { images = set images slot new; ops = ops' }) ≡ tape_in log files)
            by (Ok x) none kept = tt
            by (Err e) none kept = λ told. ap (λ (n : ℕ). tape_in log (record { images = set images slot new; ops = n })) none ∙ image_tape kept told

        pub image_flush_did : Did tells result (tape_in log files) (tape_in log (record { images = set images slot new; ops = ops' })) (Flush slot ∷ [])
        image_flush_did = by result done stays synced kept
          where
            by : (r : Result T E) → OnOk r (ops' ≡ ops + 1) → OnErr r (ops' ≡ ops) → OnOk r (tells → IsSynced (log old.device) (log new.device) ops) → OnErr r (tells → AreKept (log old.device) (log new.device))
                → Did tells r (tape_in log files) (tape_in log (record { images = set images slot new; ops = ops' })) (Flush slot ∷ [])
            by (Ok x) next none synced kept = did_ok x (tape_in log files) (tape_in log (record { images = set images slot new; ops = ops' })) (Flush slot ∷ []) (image_flush ops' next synced)
            by (Err e) next none synced kept = did_nothing e (tape_in log files) (tape_in log (record { images = set images slot new; ops = ops' })) (Flush slot ∷ [])
                (λ told. ap (λ (n : ℕ). tape_in log (record { images = set images slot new; ops = n })) none ∙ image_tape kept told)

      -- ---- a write

      module _ (ops' at : ℕ) (from : List ℕ) (rises : ops ≤ ops') (few : ops' ≤ ops + length from / 512) (whole : 512 * (length from / 512) ≡ length from) (small : (i : ℕ) → get_or from i 0 < 256)
          (put : tells → IsPut (bytes old.device) (bytes new.device) (512 * at) (512 * (ops' - ops)) from) (logged : tells → IsLogged (log old.device) (log new.device) ops at (ops' - ops) from) where
        put_here : tells → IsPut (bytes_at B slot) (bytes new.device) (512 * at) (512 * (ops' - ops)) from
        put_here told = subst (λ (f : ℕ → ℕ). IsPut f (bytes new.device) (512 * at) (512 * (ops' - ops)) from) (sym bytes_here) (put told)

        logged_here : tells → IsLogged (log_at L slot) (log new.device) ops at (ops' - ops) from
        logged_here told = subst (λ (f : Log). IsLogged f (log new.device) ops at (ops' - ops) from) (sym log_here) (logged told)

        back : ops + (ops' - ops) ≡ ops'
        back = omega (arith, rises)

        forth : ops' ≡ ops + (ops' - ops)
        forth = sym back

        pub image_written : IsKept tells start bytes log (set images slot new) ops'
        image_written = subst (λ (n : ℕ). IsKept tells start bytes log (set images slot new) n) back (settled (ops + (ops' - ops)) (λ told.
            write_step S B L ops slot (was.told told) in_logs as_many (bytes new.device) (log new.device) at (ops' - ops) (length from / 512) from (put_here told) (logged_here told) (omega (arith, few)) (omega (arith, whole)) small))

        image_write : tells → tape_in log (record { images = set images slot new; ops = ops' }) ≡ tape_in log files ++ take (ops' - ops) (writes slot at (length from / 512) from)
        image_write told =
            (λ i. tape_of (logs_new i) (forth i))
            ∙ write_tape S B L ops slot (was.told told) in_logs as_many (bytes new.device) (log new.device) at (ops' - ops) (length from / 512) from (put_here told) (logged_here told) (omega (arith, few)) (omega (arith, whole)) small
            ∙ ap (λ (f : Files D). tape_in log f ++ take (ops' - ops) (writes slot at (length from / 512) from)) seen

        pub image_did : {T E : Type 0} (result : Result T E) → OnOk result (ops' ≡ ops + length from / 512) → Did tells result (tape_in log files) (tape_in log (record { images = set images slot new; ops = ops' })) (writes slot at (length from / 512) from)
        image_did result done = record {
          some = λ told. (ops' - ops, image_write told);
          all = λ told ok. let finished = at_ok result done ok in image_write told
              ∙ ap (λ (l : List Operation). tape_in log files ++ l) (writes_all slot at (length from / 512) (ops' - ops) from (omega (arith, finished)));
        }

-- ---- a bank as it is

pub files_whole : {D tells : Type 0} (images : List (Image D)) (ops : ℕ) (start bytes : D → ℕ → ℕ) (log : D → Log) → IsKept tells start bytes log images ops → tells
    → HasWholeSectors (given_of start (record { images = images; ops = ops })) (tape_in log (record { images = images; ops = ops }))
files_whole images ops start bytes log kept told = record {
  stored = λ s k known within. sector-whole (bytes_at (map (λ image. start image.device) images) s) k (λ i. (kept.told told).stored s i);
  written = (kept.told told).written;
}
