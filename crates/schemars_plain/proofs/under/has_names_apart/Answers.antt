-- Each shape with variants, by its tag.
use Rattle.std.proofs.Common.{inl, inr}
use Rattle.schemars_plain.proofs.under.has_names_apart.Goals as goal

pub returns-in-External : goal.returns-in-External
returns-in-External c =
    let told = rw c.deref-in-External.ensures.value at c.variants_apart-in-External.ensures in
    elim c.in-External.is [ inl is ↦ rw is told | inr is ↦ rw is told ]

pub returns-in-Internal : goal.returns-in-Internal
returns-in-Internal c = rw c.in-Internal.is (rw (c.as_str.ensures.value, c.deref.ensures.value) at c.variants_apart.ensures)

pub returns-in-Adjacent : goal.returns-in-Adjacent
returns-in-Adjacent c = rw c.in-Adjacent.is (rw c.deref-in-Adjacent.ensures.value at c.variants_apart-in-Adjacent.ensures)
