-- A truth value made an object accepts what it did.
use Rattle.std.proofs.Common.{◌≡◌, ℕ, Bool, true, false, refl}
use Rattle.schemars_schema.proofs.Words.{Data, null, boolean, object, IsSchema, members_in, Dialect, Patterns, accepts, read_data, all_keywords}
use Rattle.schemars_schema.proofs.Silent.{items_none, const_none, unevaluated_none}

pub accepts-members_in : (dialect : Dialect) (document : Data) (patterns : Patterns) (n : ℕ) (s v : Data) → IsSchema s
    → accepts dialect document patterns n (object (members_in s)) v ≡ accepts dialect document patterns n s v
unfolding read_data all_keywords
accepts-members_in dialect document patterns n (object ms) v is = refl
accepts-members_in dialect document patterns n (boolean b) v is = go dialect.judges_siblings dialect.reads_prefix_items
    dialect.reads_nullable dialect.reads_const dialect.reads_unevaluated b
  where
    switched : Bool → Bool → Bool → Bool → Bool → Dialect
    switched p q r t u = record { judges_siblings = p; reads_prefix_items = q; reads_nullable = r; reads_const = t; reads_unevaluated = u }

    go : (p q r t u b : Bool) → accepts (switched p q r t u) document patterns n (object (members_in (boolean b))) v
        ≡ accepts (switched p q r t u) document patterns n (boolean b) v
    go true q r t u true = rw (items_none q v, const_none t v, unevaluated_none u _ v)
    go true q r t u false = rw (items_none q v, const_none t v, unevaluated_none u _ v)
    go false q r t u true = rw (items_none q v, const_none t v, unevaluated_none u _ v)
    go false q r t u false = rw (items_none q v, const_none t v, unevaluated_none u _ v)
accepts-members_in dialect document patterns n null v is = absurd is
accepts-members_in dialect document patterns n _ v is = absurd is
