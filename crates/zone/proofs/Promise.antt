-- What proofs of the layers above cite beside Claims, of the zone's laws and the solver's: Laws is private.
pub use Rattle.solver.proofs.Promise.{AllFit, take_fits, bind_is, bind_ok, require_ok, ok_inj, ok_not_refused, bind_refuses, refusal_by, refuses_also, test_refuses, and_true}
pub use Rattle.zone.proofs.Laws.Accepted.{conditions_length_lem, count_few, hour_tested, temps_length}
pub use Rattle.zone.proofs.Laws.Answers.{answered_no, answered_yes, hour_no, hour_yes, update_no, update_yes}
pub use Rattle.zone.proofs.Laws.Decoded.{floats_length}
pub use Rattle.zone.proofs.Laws.Element.{nodes_few}
pub use Rattle.zone.proofs.Laws.Fits.{hour_behind, hour_fits, hour_nodes}
pub use Rattle.zone.proofs.Laws.HeadAnswers.{head_no, head_yes}
pub use Rattle.zone.proofs.Laws.Limits.{limits_back, limits_length_lem, same_limits}
pub use Rattle.std.proofs.lemmas.List.{drop-replicate as drop_replicate}
pub use Rattle.zone.proofs.Laws.NextHour.{next_then}
pub use Rattle.zone.proofs.Laws.RateTwice.{fixed_append, length_same as length_twice, twice_append}
pub use Rattle.zone.proofs.Laws.Refusals.{because}
pub use Rattle.zone.proofs.Laws.RoundTrip.{row_back}
pub use Rattle.zone.proofs.Laws.StructuredHead.{head_as_tested, head_fails, head_judged, head_passes, head_then_test, structured_counts, structured_few, structured_within}
pub use Rattle.zone.proofs.Laws.StructuredHead.{demand_judges, hour_judges, operative_judges, start_up_judges, update_judges, why_judges}
pub use Rattle.zone.proofs.Laws.Versions.{hour_version_bounds, hour_version_not}
pub use Rattle.zone.proofs.Laws.Ranges.{counts_few}
pub use Rattle.zone.proofs.Claims.ForBook.{length_bytes_of, length_row, node_count_few, tested_few}
