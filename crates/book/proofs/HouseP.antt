-- House P's book, from what the zone computes for House P.
use Rattle.std.proofs.Common.{◌≡◌, refl, sym, ap, subst, ◌∙◌, true, List, [], ◌∷◌, ◌++◌, append-nil, ℕ, ◌+◌, ◌≤◌, arith, length, take, drop, length-append, le-leb, T}
use lib.Seq.{take-length}
use borrow.Author.Tests.{lt-leb}
use lib.Ieee.{binary64, fits}
use lib.Ieee.Bits.{of_bits-fits}
use Rattle.zone.specs.Promise.{ok, zero64}
use Rattle.zone.specs.Format.Limits.{limits_bytes, limits_in}
use Rattle.zone.specs.Calls.Hour.{hour_step}
use Rattle.zone.specs.Record.BuildingElement.{standard_coefficients}
use Rattle.zone.proofs.Promise.{bind_is, limits_back, limits_length_lem}
use Rattle.zone.specs.declared.format.conditions.FixedRate.TheVariants.{Retired, StillTaken}
use Rattle.zone.specs.Claims.HouseP.{house_p, head_of_p, hour_of_p, old_hour_of_p, twenty, no_demand}
use Rattle.zone.proofs.Claims.HouseP.{house_p_lem, count_of_p, nodes_of_p, head_of_p_length}
use Rattle.zone.proofs.Claims.FixedRate.{hour_still}
use Rattle.book.specs.Model.Interface.{Written}
use Rattle.book.specs.Model.Calls.{BookState, accepted, begin_res, take_up}
use Rattle.book.specs.Model.Plain.{book, entries_of, used_bytes, own_book_state, items_ending_by, WellFormed}
use Rattle.book.specs.Model.PlainTakeUp.{take_up_plain}
use Rattle.book.specs.Model.Claims.{kept_by}
use Rattle.book.specs.Layout.{limits_length, whole_length}
use Rattle.book.specs.Entry.{entry_of}
use Rattle.book.specs.Year.{Item, hour, Carried, carried, no_entry_version, may_follow, hour_entry, year_interface}
use Rattle.book.proofs.Laws.Body.{conditions_are, limits_are}
use Rattle.book.specs.HouseP.{begun, BeginOfP, BookOfP, no_power, BooksOfP}
use Rattle.book.proofs.Model.AppendCut.{cut_is, cut_take_up}
use Rattle.book.proofs.Model.Books.Cuts.{take_up_ok}
use Rattle.book.proofs.Laws.Interface.{step_length, year_laws}

pub begin_of_p : BeginOfP
unfolding begin_res
begin_of_p buf room =
    rw (house_p_lem.head, house_p_lem.start_up, le-leb 180 (length buf) room)
    (ap (λ x. ok (begun, x ++ drop 180 buf)) (ap (λ n. take n head_of_p) (sym head_of_p_length) ∙ take-length head_of_p))

-- ---- its hour, of a version

entry : (version : ℕ) (body : List ℕ) → Written Carried
entry version body = record { bytes = entry_of house_p version body no_demand twenty; after = carried twenty version }

head_is : year_interface.head_of head_of_p ≡ ok (record { zone = house_p; length = length head_of_p })
head_is = house_p_lem.head ∙ ap (λ n. ok (record { zone = house_p; length = n })) (sym head_of_p_length)

start_is : year_interface.start_up house_p ≡ ok (carried twenty no_entry_version)
start_is = rw house_p_lem.start_up refl

none_formed : WellFormed year_interface head_of_p []
unfolding entries_of
none_formed =
    record {
      contents = record { zone = house_p; start = carried twenty no_entry_version; entries = [] };
      head_is = head_is;
      start_is = start_is;
      entries_are = refl;
      within_limit = omega arith;
    }

-- ---- the book with this hour, and cuts of it

module _ (version : ℕ) (body : List ℕ) (size : ℕ) (whole : whole_length house_p version ≡ size)
    (gives : year_interface.step house_p 0 (carried twenty no_entry_version) (hour version body) ≡ ok (entry version body)) where
  long : length (entry version body).bytes ≡ size
  long = step_length StillTaken house_p 0 (carried twenty no_entry_version) version body (entry version body) gives ∙ whole

  abbrev items : List Item
  items = hour version body ∷ []

  formed : WellFormed year_interface head_of_p items
  unfolding entries_of
  formed =
      record {
        contents =
            record {
              zone = house_p;
              start = carried twenty no_entry_version;
              entries = record { item = hour version body; bytes = (entry version body).bytes; after = (entry version body).after } ∷ [];
            };
        head_is = head_is;
        start_is = start_is;
        entries_are = bind_is _ _ _ _ gives refl;
        within_limit = omega arith;
      }

  used_is : used_bytes year_interface head_of_p formed.contents ≡ head_of_p ++ (entry version body).bytes
  unfolding formed
  used_is = ap (λ x. head_of_p ++ x) (append-nil (entry version body).bytes)

  used_length : length (head_of_p ++ (entry version body).bytes) ≡ 180 + size
  used_length = omega (arith, length-append head_of_p (entry version body).bytes, head_of_p_length, long)

  kept_none : kept_by year_interface (179 + size) head_of_p items formed ≡ []
  unfolding formed items_ending_by
  kept_none = rw (lt-leb (length head_of_p + length (entry version body).bytes) (179 + size) (omega (arith, long, head_of_p_length)))

  kept_one : kept_by year_interface (180 + size) head_of_p items formed ≡ items
  unfolding formed items_ending_by
  kept_one = rw (le-leb (length head_of_p + length (entry version body).bytes) (180 + size) (omega (arith, long, head_of_p_length)))

  -- a cut leaves the hours that it keeps
  taken : (g : BookState Carried) (at : ℕ) (is : List Item) → 180 ≤ at → kept_by year_interface at head_of_p items formed ≡ is → (S : WellFormed year_interface head_of_p is)
      → take_up year_interface g (take at (head_of_p ++ (entry version body).bytes)) ≡ accepted (own_book_state year_interface head_of_p S.contents)
  taken g at is lo e S =
      take_up_ok year_interface year_laws g (take at (head_of_p ++ (entry version body).bytes)) head_of_p is
      (ap (λ x. take_up_plain year_interface (take at x)) (sym used_is)
      ∙ sym (cut_take_up year_interface year_laws head_of_p items formed at (omega (arith, lo, head_of_p_length)))
      ∙ cut_is year_interface year_laws head_of_p items formed at
      ∙ ap (λ x. ok (book head_of_p x)) e) S

  cut_before : (g : BookState Carried) → take_up year_interface g (take (179 + size) (head_of_p ++ (entry version body).bytes)) ≡ accepted begun
  unfolding none_formed
  cut_before g =
      taken g (179 + size) [] (omega arith) kept_none none_formed
      ∙ (λ t. accepted (record { state = carried twenty no_entry_version; count = 0; used = (ap length (append-nil head_of_p) ∙ head_of_p_length) t }))

  same_after : (entry version body).after ≡ carried twenty version
  unfolding entry
  same_after = refl

  cut_at_end : (g : BookState Carried) → take_up year_interface g (take (180 + size) (head_of_p ++ (entry version body).bytes)) ≡ accepted (record { state = carried twenty version; count = 1; used = 180 + size })
  unfolding formed
  cut_at_end g =
      taken g (180 + size) items (omega arith) kept_one formed
      ∙ (λ t. accepted (record { state = same_after t; count = 1; used = (ap length used_is ∙ used_length) t }))

  book_by : BookOfP version body size
  book_by = record { entry = entry version body; gives = gives; long = long; kept = same_after; cut_before = cut_before; cut_at_end = cut_at_end }

-- what the zone computes for House P, as an entry: the limits' bytes j behind the conditions i
given_by : (version : ℕ) (i j : List ℕ) → length j ≡ limits_length version → may_follow no_entry_version version ≡ true
    → hour_step StillTaken standard_coefficients house_p version (limits_in j) twenty i ≡ ok (record { demand = no_demand; state = twenty; balance = house_p_lem.balance })
    → year_interface.step house_p 0 (carried twenty no_entry_version) (hour version (i ++ j)) ≡ ok (entry version (i ++ j))
unfolding hour_entry entry
given_by version i j long follows e = rw (follows, conditions_are version i j long, limits_are version i j long, e) refl

gives_by : (version : ℕ) (j : List ℕ) → length j ≡ limits_length version → may_follow no_entry_version version ≡ true
    → hour_step Retired standard_coefficients house_p version (limits_in j) twenty hour_of_p ≡ ok (record { demand = no_demand; state = twenty; balance = house_p_lem.balance })
    → year_interface.step house_p 0 (carried twenty no_entry_version) (hour version (hour_of_p ++ j)) ≡ ok (entry version (hour_of_p ++ j))
gives_by version j long follows e = given_by version hour_of_p j long follows (hour_still standard_coefficients house_p version (limits_in j) twenty hour_of_p _ e)

fits_zero : T (fits binary64 zero64)
fits_zero = of_bits-fits binary64 0

pub books_of_p : BooksOfP
books_of_p =
    record {
      version_1 =
          subst (λ x. BookOfP 1 x 216) (append-nil hour_of_p)
          (book_by 1 (hour_of_p ++ []) 216 (omega (arith, count_of_p, nodes_of_p)) (gives_by 1 [] refl refl (house_p_lem.hour_1 _)));
      old_hour =
          subst (λ x. BookOfP 1 x 216) (append-nil old_hour_of_p)
          (book_by 1 (old_hour_of_p ++ []) 216 (omega (arith, count_of_p, nodes_of_p)) (given_by 1 old_hour_of_p [] refl refl (house_p_lem.old_hour _)));
      version_2 =
          subst (λ x. BookOfP 2 x 216) (append-nil hour_of_p)
          (book_by 2 (hour_of_p ++ []) 216 (omega (arith, count_of_p, nodes_of_p)) (gives_by 2 [] refl refl (house_p_lem.hour_2 _)));
      version_3 =
          book_by 3 (hour_of_p ++ limits_bytes no_power) 232 (omega (arith, count_of_p, nodes_of_p))
          (gives_by 3 (limits_bytes no_power) (limits_length_lem no_power) refl (rw (limits_back no_power fits_zero fits_zero) house_p_lem.hour_3));
    }
