-- A buffer is filled and bytes are passed over piece by piece.
use Rattle.std.proofs.Common.{◌≡◌, ℕ, ◌+◌, ◌-◌, ◌<◌, ◌≤◌, List, [], ◌++◌, length, take, drop, Ok, Err, Result, refl, sym, ap, ◌∙◌, arith, append_assoc}
use Rattle.std.proofs.lemmas.List.{length-append, length-take, length-drop, take-append-le, drop-drop, drop_at}
use Rattle.std.proofs.Math.Seq.{take-append-add}
use borrow.Rule.Slice.PartMut.{put_mid, post_of}
use Rattle.script_io.specs.Moves.{Pulled}
use Rattle.serve_bytes.specs.declared.exact.ReadError.{ReadError}
use Rattle.serve_bytes.specs.declared.exact.ReadError.TheVariants.{Ended, Failed}
use Rattle.serve_bytes.specs.Exact.{Read, Skipped, Blamed}

-- the first n bytes that were left stand in the buffer
pub record Filled (tells : Type 0) (old now buffer : List ℕ) (n : ℕ) : Type 0 where
  pub within : n ≤ length buffer
  pub front : tells → old ≡ take n buffer ++ now

-- the first n bytes that were left are gone
pub record Passed (tells : Type 0) (old now : List ℕ) (n : ℕ) : Type 0 where
  pub within : tells → n ≤ length old
  pub gone : tells → now ≡ drop n old

-- d bytes stood there, and n more came behind them
pub filled_more : {E : Type 0} (tells : Type 0) (old mid new buffer ys : List ℕ) (d n : ℕ) → Filled tells old mid buffer d → length ys ≡ length buffer - d
    → n ≤ length ys → Pulled {E = E} tells (Ok n) mid new ys → Filled tells old new (put_mid d (length buffer - d) buffer ys) (d + n)
filled_more tells old mid new buffer ys d n filled long fits pulled =
    let post = post_of d (length buffer - d) buffer in
    let short : length (take d buffer) ≡ d = omega (arith, length-take d buffer, filled.within) in
    let front : take (d + n) (take d buffer ++ (ys ++ post)) ≡ take d buffer ++ take n ys =
    ap (λ k. take (k + n) (take d buffer ++ (ys ++ post))) (sym short)
    ∙ take-append-add (take d buffer) (ys ++ post) n
    ∙ ap (λ l. take d buffer ++ l) (take-append-le n ys post fits) in
    record {
      within = omega (arith, length-append (take d buffer) (ys ++ post), length-append ys post);
      front = λ t. filled.front t
          ∙ ap (λ l. take d buffer ++ l) (pulled.moved t)
          ∙ sym (append_assoc (take d buffer) (take n ys) new)
          ∙ ap (λ l. l ++ new) (sym front);
    }

-- n bytes more were read
pub passed_more : {T : Type 0} (tells : Type 0) (old mid new buffer : List ℕ) (x : T) (k n m : ℕ) → Passed tells old mid k → length buffer ≡ n → m ≡ k + n
    → Read {T = T} tells (Ok x) mid new buffer → Passed tells old new m
passed_more tells old mid new buffer x k n m passed long sum read = record {
  within = λ t. omega (arith, passed.within t, ap length (passed.gone t), length-drop k old, ap length (read.whole t), length-append buffer new);
  gone = λ t. sym (drop_at buffer new n long)
      ∙ ap (drop n) (sym (read.whole t))
      ∙ ap (drop n) (passed.gone t)
      ∙ drop-drop n k old
      ∙ ap (λ j. drop j old) (sym sum);
}

-- the end came amid the bytes
pub ended_behind : {T : Type 0} (tells : Type 0) (old mid new buffer : List ℕ) (k n count : ℕ) → Passed tells old mid k → k + length buffer ≤ count
    → Read {T = T} tells (Err (Ended n)) mid new buffer → Skipped {T = T} tells (Err (Ended (k + n))) old new count
ended_behind tells old mid new buffer k n count passed fits read = record {
  whole = λ t. tt;
  fewer = omega (arith, read.fewer);
  stuck = λ t. (
    omega (arith, read.fewer, passed.within t, ap length (passed.gone t), length-drop k old, ap length ((read.cut_off t).0), length-take n buffer),
    (read.cut_off t).1,
  );
}

-- a fault came amid the bytes
pub failed_behind : {T : Type 0} (tells : Type 0) (old mid new buffer : List ℕ) (k count : ℕ) → Passed tells old mid k → k + length buffer ≤ count
    → Read {T = T} tells (Err Failed) mid new buffer → Skipped {T = T} tells (Err Failed) old new count
failed_behind tells old mid new buffer k count passed fits read = record {
  whole = λ t. tt;
  fewer = tt;
  stuck = λ t.
      let cut = read.cut_off t in
      let short : length (take cut.0 buffer) ≡ cut.0 = omega (arith, length-take cut.0 buffer, cut.1) in (
        k + cut.0,
        omega (arith, cut.1),
        omega (arith, passed.within t, ap length (passed.gone t), length-drop k old, ap length cut.2, length-append (take cut.0 buffer) new),
        sym (drop_at (take cut.0 buffer) new cut.0 short) ∙ ap (drop cut.0) (sym cut.2) ∙ ap (drop cut.0) (passed.gone t) ∙ drop-drop cut.0 k old,
      );
}
