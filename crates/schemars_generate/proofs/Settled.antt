-- What a registry has after a call: what was there before, or what was added too.
use Rattle.std.proofs.Common.{◌≡◌, ◌∙◌, [], length, false, sym, ap}
use Rattle.schemars_generate.proofs.Words.{take-length, if◌then◌else◌, Registry, rolled_back, State, registry_of, after_root}

nothing_added : (s : State) → rolled_back (registry_of s) ≡ registry_of s
nothing_added s = λ i. record {
  names = take-length s.names i;
  definitions = s.definitions;
  begun = [];
  kept = length s.names;
  has_root_reference = false;
  pending = [];
}

-- what was added is taken back
pub as_before : (s : State) (old last new : Registry) → old ≡ registry_of s → rolled_back last ≡ rolled_back old → new ≡ rolled_back last
    → new ≡ old
as_before s old last new between same back = back ∙ same ∙ ap rolled_back between ∙ nothing_added s ∙ sym between

-- or is kept, but for definitions where one refers to the root document
pub settled : (s : State) (old last new : Registry) → old ≡ registry_of s → rolled_back last ≡ rolled_back old
    → last.pending ≡ []
    → new ≡ record last {
      definitions = if last.has_root_reference then (rolled_back last).definitions else last.definitions;
      begun = [];
      kept = length last.names;
      has_root_reference = false;
    }
    → new ≡ registry_of (after_root s last)
settled s old last new between same none is =
    let before = same ∙ ap rolled_back between ∙ nothing_added s in
    is ∙ (λ i. record {
      names = last.names;
      definitions = if last.has_root_reference then (before i).definitions else last.definitions;
      begun = [];
      kept = length last.names;
      has_root_reference = false;
      pending = none i;
    })
