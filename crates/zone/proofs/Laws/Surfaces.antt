-- What is assembled from the arrays that `assemble_elements` fills is what the definitions give.
use Rattle.std.proofs.Common.{◌≡◌, refl, ◌∙◌, List, ℕ, ◌≤◌, length, Float}
use Rattle.solver.specs.Repeat.{repeat}
use Rattle.solver.specs.Sums.{sum2, terms}
use Rattle.zone.specs.declared.record.building_element.Element.{Element}
use Rattle.zone.specs.Physics.Slots.{with_terms}
use Rattle.zone.specs.Physics.System.{area_of, area_el_total}
use Rattle.zone.specs.Inner.Assembly.{at, share_by, convective_by, Chains, couple_row}
use Rattle.zone.specs.Inner.Assembled.{h_ri_of}
use Rattle.zone.specs.Inner.Kept.{rows_by, chains_by, couplings_by, convective_by_sum}
use Rattle.zone.proofs.Laws.Terms.{repeat_same}
use Rattle.zone.proofs.Laws.Agree.{Agree, stored, agree_trans, shares_agree, convective_agree, sum2_same, couplings_same}

module _ (n : ℕ) (es : List Element) (h_ci_of : ℕ → Float) where
  -- what the arrays hold
  pub record Surfaces (area h_ri h_ci share : List Float) (total : Float) : Type 0 where
    pub areas : Agree n (at area) (area_of es)
    pub h_ris : Agree n (at h_ri) (h_ri_of es)
    pub h_cis : Agree n (at h_ci) h_ci_of
    pub total_is : total ≡ area_el_total n es
    pub shares : Agree n (at share) (share_by (area_of es) (area_el_total n es))

  pub surfaces : (area h_ri h_ci share z : List Float) (total : Float) →
      n ≤ length z →
      area ≡ with_terms n (area_of es) z →
      h_ri ≡ with_terms n (h_ri_of es) z →
      total ≡ sum2 (terms 0 n (at area)) →
      share ≡ with_terms n (share_by (at area) total) z →
      h_ci ≡ with_terms n h_ci_of z →
      Surfaces area h_ri h_ci share total
  unfolding area_el_total
  surfaces area h_ri h_ci share z total hz ha hr ht hs hh =
      let A : Agree n (at area) (area_of es) = stored n (area_of es) area z ha hz in
      let T : total ≡ area_el_total n es = ht ∙ sum2_same n (at area) (area_of es) A in
      record {
        areas = A;
        h_ris = stored n (h_ri_of es) h_ri z hr hz;
        h_cis = stored n h_ci_of h_ci z hh hz;
        total_is = T;
        shares =
            agree_trans n (at share) (at share) (share_by (at area) total) (share_by (area_of es) (area_el_total n es))
            (stored n (share_by (at area) total) share z hs hz)
            (shares_agree n (at area) (area_of es) (at area) (at area) total (area_el_total n es) A T);
      }

  module _ (area h_ri h_ci share : List Float) (total : Float) (k : Surfaces area h_ri h_ci share total) where
    pub chains_is : (opens : List ℕ) (delta_t : Float) (s : Chains) →
        repeat 0 n (rows_by es opens delta_t (at h_ci) (at share)) s ≡ chains_by n es opens delta_t h_ci_of s
    unfolding chains_by rows_by
    chains_is opens delta_t s =
        repeat_same (rows_by es opens delta_t (at h_ci) (at share)) (rows_by es opens delta_t h_ci_of (share_by (area_of es) (area_el_total n es))) n s
        (λ e h x. rw (k.h_cis e h, k.shares e h) refl)

    pub couplings_is : (m : List Float) →
        repeat 0 n (couple_row n (at area) (at h_ri) (at h_ci) (at share)) m ≡ couplings_by n es h_ci_of m
    unfolding couplings_by
    couplings_is m =
        couplings_same n (at h_ci) h_ci_of (at share) (share_by (area_of es) (area_el_total n es)) k.h_cis k.shares
        (at area) (area_of es) (at h_ri) (h_ri_of es) m k.areas k.h_ris

    pub convective_is : sum2 (terms 0 n (convective_by (at area) (at h_ci))) ≡ convective_by_sum n es h_ci_of
    unfolding convective_by_sum
    convective_is =
        sum2_same n (convective_by (at area) (at h_ci)) (convective_by (area_of es) h_ci_of)
        (convective_agree n (at area) (area_of es) (at h_ci) h_ci_of k.areas k.h_cis)
