-- Laws of verdicts.
use Rattle.std.proofs.Common.{◌≡◌, Bool, true, false, refl, sym, ap, ◌∙◌}
use Rattle.schemars_schema.proofs.Words.{◌&&◌, ◌||◌, not, Data, Members, no_members, member, Text, Verdict, Yes, No, Open, both, verdict, opposite, each_member}

pub both-yes : (x : Verdict) → both x Yes ≡ x
both-yes Yes = refl
both-yes No = refl
both-yes Open = refl

pub both-swap : (x y : Verdict) → both x y ≡ both y x
both-swap Yes y = sym (both-yes y)
both-swap No Yes = refl
both-swap No No = refl
both-swap No Open = refl
both-swap Open Yes = refl
both-swap Open No = refl
both-swap Open Open = refl

pub both-assoc : (x y z : Verdict) → both (both x y) z ≡ both x (both y z)
both-assoc Yes y z = refl
both-assoc Open y z = refl
both-assoc No Yes z = refl
both-assoc No Open z = refl
both-assoc No No Yes = refl
both-assoc No No No = refl
both-assoc No No Open = refl

pub both-middle : (a b x y : Verdict) → both (both a b) (both x y) ≡ both (both a x) (both b y)
both-middle a b x y =
    both-assoc a b (both x y) ∙ (ap (both a) (sym (both-assoc b x y) ∙ (ap (λ z. both z y) (both-swap b x) ∙ both-assoc x b y))
    ∙ sym (both-assoc a x (both b y)))

pub both-verdict : (a b : Bool) → both (verdict a) (verdict b) ≡ verdict (a && b)
both-verdict true b = refl
both-verdict false true = refl
both-verdict false false = refl

pub opposite-verdict : (a : Bool) → opposite (verdict a) ≡ verdict (not a)
opposite-verdict true = refl
opposite-verdict false = refl

-- at least one of two
pub either-verdict : (a b : Bool) → opposite (both (opposite (verdict a)) (both (opposite (verdict b)) Yes)) ≡ verdict (a || b)
either-verdict true true = refl
either-verdict true false = refl
either-verdict false true = refl
either-verdict false false = refl

-- members that are judged alike
pub each_agree : (p q : Text → Data → Verdict) → ((k : Text) (w : Data) → p k w ≡ q k w) → (ms : Members)
    → each_member p ms ≡ each_member q ms
each_agree p q same no_members = refl
each_agree p q same (member k w ms) = rw (same k w, each_agree p q same ms)
