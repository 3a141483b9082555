-- A call through a box: the box keeps its table, and holds the value that the call leaves.
use Rattle.std.proofs.Common.{◌≡◌, refl, sym, subst}
use Rattle.std.specs.Global.{Global}
use Rattle.std.specs.declared.dyn_box.DynBox.{DynBox}

-- What a call R says of the pair p of table and value that the box lent holds of the box itself.
pub boxed_call : {X : Type 0} {F : X → Type 0} (R : (i : X) → F i → F i → Type 0) (b : DynBox X Global F)
    (p : (i : X) × F i) (w : F p.0) → (p.0 ≡ b.vtable) × (p ≡ (b.vtable, b.value)) → R p.0 p.1 w
    → (x : F b.vtable) × R b.vtable b.value x × ◌≡◌ {A = DynBox X Global F}
    (record { ptr = b.ptr; vtable = p.0; alloc = b.alloc; value = w })
    (record { ptr = b.ptr; vtable = b.vtable; alloc = b.alloc; value = x })
boxed_call {X} {F} R b p w lent called =
    let Held : ((i : X) × F i) → Type 0 = λ q. (v : F q.0) → R q.0 q.1 v
    → (x : F b.vtable) × R b.vtable b.value x × ◌≡◌ {A = DynBox X Global F}
    (record { ptr = b.ptr; vtable = q.0; alloc = b.alloc; value = v })
    (record { ptr = b.ptr; vtable = b.vtable; alloc = b.alloc; value = x }) in
    subst Held (sym lent.1) (λ v r. (v, r, refl)) w called
