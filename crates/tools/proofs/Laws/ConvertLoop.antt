-- The loop that writes the entries anew: what holds before an entry, one turn, and its end.
use Rattle.std.proofs.Common.{ℕ, ◌+◌, ◌-◌, ◌≤◌, ◌≡◌, refl, sym, ap, subst, ◌∙◌, Bool, true, false, cond, List, [], ◌∷◌, ◌++◌, map, append_assoc, append-nil, arith, length, take, drop, length-append, length-drop, length-take-le, drop-drop, take_at, drop_at, le-leb}
use Rattle.std.specs.Prelude as Rust
use Rattle.std.specs.Prelude.{None, Some}
use Rattle.std.proofs.Math.Option.{some}
use Rattle.std.proofs.lemmas.List.{drop_all}
use Rattle.solver.proofs.Promise.{part_to_end}
use Rattle.zone.proofs.Promise.{length_twice}
use Rattle.zone.specs.Format.FixedRate.{is_fixed, rate_twice}
use Rattle.zone.specs.declared.record.zone_record.Zone.{Zone}
use Rattle.book.specs.Layout.{front_size}
use Rattle.book.specs.Model.Bytes.{concat}
use Rattle.book.specs.Model.Calls.{whole_entries}
use Rattle.book.specs.Year.{entry_length, year_interface}
use Rattle.book.specs.Inner.Record.{length_of, length_read}
use Rattle.book.specs.declared.record.ReadRecord.{ReadRecord}
use Rattle.book.specs.Inner.Reader.{read_length}
use Rattle.book.proofs.Laws.Interface.{year_laws}
use Rattle.book.proofs.Laws.Rest.{begins, begins_within}
use Rattle.book.proofs.Model.Laws.Decode.{whole_none, whole_some}
use Rattle.tools.specs.Inner.Convert.{converted_entry, AllLong, least_entry}

-- ---- lists of entries

concat_append : (xs ys : List (List ℕ)) → concat (xs ++ ys) ≡ concat xs ++ concat ys
concat_append [] ys = refl
concat_append (x ∷ xs) ys = ap (λ l. x ++ l) (concat_append xs ys) ∙ sym (append_assoc x (concat xs) (concat ys))

converted_append : (xs ys : List (List ℕ)) → concat (map converted_entry (xs ++ ys)) ≡ concat (map converted_entry xs) ++ concat (map converted_entry ys)
converted_append [] ys = refl
converted_append (x ∷ xs) ys = ap (λ l. converted_entry x ++ l) (converted_append xs ys) ∙ sym (append_assoc (converted_entry x) (concat (map converted_entry xs)) (concat (map converted_entry ys)))

long_behind : (xs ys : List (List ℕ)) → AllLong (xs ++ ys) → AllLong ys
unfolding AllLong
long_behind [] ys h = h
long_behind (x ∷ xs) ys h = long_behind xs ys h.1

-- an entry keeps its length
pub converted_length : (e : List ℕ) → least_entry ≤ length e → length (converted_entry e) ≡ length e
converted_length e long = go (is_fixed (drop front_size e)) refl
  where
    go : (b : Bool) → is_fixed (drop front_size e) ≡ b → length (take front_size e ++ cond b (rate_twice (drop front_size e)) (drop front_size e)) ≡ length e
    go true t =
        omega (
          arith,
          long,
          length-append (take front_size e) (rate_twice (drop front_size e)),
          length-take-le front_size e (omega (arith, long)),
          length_twice (drop front_size e) (omega (arith, long, length-drop front_size e)),
          length-drop front_size e,
        )
    go false t = omega (arith, long, length-append (take front_size e) (drop front_size e), length-take-le front_size e (omega (arith, long)), length-drop front_size e)

-- so do all of them
pub same_lengths : (cs : List (List ℕ)) → AllLong cs → length (concat (map converted_entry cs)) ≡ length (concat cs)
unfolding AllLong
same_lengths [] h = refl
same_lengths (c ∷ cs) h =
    omega (
      arith,
      length-append (converted_entry c) (concat (map converted_entry cs)),
      length-append c (concat cs),
      converted_length c h.0,
      same_lengths cs h.1,
    )

-- ---- the loop

-- the entries that are written, and those that are left: `at` is where these begin
pub record Part (z : Zone) (entries before out : List ℕ) (at : ℕ) : Type 0 where
  pub done : List (List ℕ)
  pub split : whole_entries year_interface z entries ≡ done ++ whole_entries year_interface z (drop at entries)
  pub inside : at ≤ length entries
  pub at_is : length (concat done) ≡ at
  pub same_long : length (concat (map converted_entry done)) ≡ length (concat done)
  pub made : out ≡ concat (map converted_entry done) ++ drop at before

module _ (z : Zone) (few : z.count ≤ 24) (entries before out : List ℕ) (at : ℕ) (long : AllLong (whole_entries year_interface z entries))
    (room : length before ≡ length (concat (whole_entries year_interface z entries))) (P : Part z entries before out at) where
  abbrev left : List ℕ
  left = drop at entries

  length_here : (r : Rust.Option ReadRecord) → length_read r ≡ read_length z (take (length entries - at) left) → length_read r ≡ entry_length z left
  length_here r e = e ∙ rw (part_to_end entries at, le-leb z.count 24 few) refl

  -- no entry is left
  pub part_last : (r : Rust.Option ReadRecord) → length_read r ≡ read_length z (take (length entries - at) left) → r ≡ None → out ≡ concat (map converted_entry (whole_entries year_interface z entries))
  part_last r e d =
      let last = whole_none year_interface year_laws z left (sym (length_here r e) ∙ ap length_read d) in
      let all : whole_entries year_interface z entries ≡ P.done = P.split ∙ ap (λ l. P.done ++ l) last ∙ append-nil P.done in
      let full : length before ≡ at = room ∙ ap (λ l. length (concat l)) all ∙ P.at_is in
      P.made
      ∙ ap (λ l. concat (map converted_entry P.done) ++ l) (drop_all at before (omega (arith, full)))
      ∙ append-nil (concat (map converted_entry P.done))
      ∙ ap (λ l. concat (map converted_entry l)) (sym all)

  module _ (r : Rust.Option ReadRecord) (e : length_read r ≡ read_length z (take (length entries - at) left)) (x : ReadRecord) (w : r ≡ Some x) (n : ℕ) (n_is : n ≡ length_of x) where
    whole : entry_length z left ≡ some n
    whole = sym (length_here r e) ∙ ap length_read w ∙ ap some (sym n_is)

    abbrev c : List ℕ
    c = take n left

    abbrev others : List (List ℕ)
    others = whole_entries year_interface z (drop n left)

    opened : whole_entries year_interface z left ≡ c ∷ others
    opened = whole_some year_interface year_laws z left n whole

    n_inside : n ≤ length left
    n_inside = (begins_within z left n (begins z left n whole)).1

    pub fits_in : at + n ≤ length entries
    fits_in = omega (arith, n_inside, P.inside, length-drop at entries)

    pub c_long : length c ≡ n
    c_long = length-take-le n left n_inside

    all : whole_entries year_interface z entries ≡ P.done ++ (c ∷ others)
    all = P.split ∙ ap (λ l. P.done ++ l) opened

    pub c_least : least_entry ≤ length c
    unfolding AllLong
    c_least = (long_behind P.done (c ∷ others) (subst AllLong all long)).0

    pub fits_out : at + n ≤ length before
    fits_out =
        omega (
          arith,
          room,
          ap (λ l. length (concat l)) all,
          ap length (concat_append P.done (c ∷ others)),
          length-append (concat P.done) (concat (c ∷ others)),
          length-append c (concat others),
          c_long,
          P.at_is,
        )

    written : length (concat (map converted_entry P.done)) ≡ at
    written = P.same_long ∙ P.at_is

    pub part_turn : (out' : List ℕ) → out' ≡ take at out ++ (converted_entry c ++ drop n (drop at out)) → Part z entries before out' (at + n)
    part_turn out' is =
        record {
          done = P.done ++ (c ∷ []);
          split = all ∙ sym (append_assoc P.done (c ∷ []) others) ∙ ap (λ l. (P.done ++ (c ∷ [])) ++ whole_entries year_interface z l) (drop-drop n at entries);
          inside = fits_in;
          at_is = ap length (concat_append P.done (c ∷ [])) ∙ omega (arith, length-append (concat P.done) (c ++ []), length-append {A = ℕ} c [], c_long, P.at_is);
          same_long =
              omega (
                arith,
                ap length (converted_append P.done (c ∷ [])),
                ap length (concat_append P.done (c ∷ [])),
                length-append (concat (map converted_entry P.done)) (converted_entry c ++ []),
                length-append (concat P.done) (c ++ []),
                length-append {A = ℕ} (converted_entry c) [],
                length-append {A = ℕ} c [],
                converted_length c c_least,
                P.same_long,
              );
          made = made_next;
        }
      where
        front_is : take at out ≡ concat (map converted_entry P.done)
        front_is = ap (take at) P.made ∙ take_at (concat (map converted_entry P.done)) (drop at before) at written

        behind_is : drop at out ≡ drop at before
        behind_is = ap (drop at) P.made ∙ drop_at (concat (map converted_entry P.done)) (drop at before) at written

        made_next : out' ≡ concat (map converted_entry (P.done ++ (c ∷ []))) ++ drop (at + n) before
        made_next =
            is
            ∙ (λ t. front_is t ++ (converted_entry c ++ drop n (behind_is t)))
            ∙ ap (λ l. concat (map converted_entry P.done) ++ (converted_entry c ++ l)) (drop-drop n at before)
            ∙ sym (append_assoc (concat (map converted_entry P.done)) (converted_entry c) (drop (at + n) before))
            ∙ ap (λ l. (concat (map converted_entry P.done) ++ l) ++ drop (at + n) before) (sym (append-nil (converted_entry c)))
            ∙ ap (λ l. l ++ drop (at + n) before) (sym (converted_append P.done (c ∷ [])))
