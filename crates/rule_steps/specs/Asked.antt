-- Document 01, 'Steps': what a call asks of the card. Most acts concern one target, named by its AID.
use Rattle.std.specs.Prelude.{ℕ, List, Bool, eqb}

-- on one target
pub data Act : Type 0 where
  enable : Act
  disable : Act
  delete : Act
  -- with the token verdict
  master_delete : ℕ → Act
  set_fall_back : Act
  -- GET STATUS of one AID: is 9F70 listed, is 53 listed
  status : Bool → Bool → Act
  keyed : Act
  stored : ℕ → Act
  -- policy and mark
  finished : ℕ → ℕ → Act
  -- an operator's policy update: the policy; the target is the profile whose domain speaks
  set_policy : ℕ → Act

pub data Asked : Type 0 where
  -- a command that cannot be read asks nothing
  unread : Asked
  -- AID and quota
  create : List ℕ → ℕ → Asked
  on : List ℕ → Act → Asked
  -- the number
  confirm : ℕ → Asked
  -- GET STATUS of all: does it go on from the kept place (P2 03), is 9F70 listed, is 53 listed
  status_of_all : Bool → Bool → Bool → Asked
  get_data : Asked
  tick : Asked
  lost : Asked

-- the acts in their order, and whether two are the same act, whatever they are handed
abbrev pub act_number : Act → ℕ
act_number enable = 0
act_number disable = 1
act_number delete = 2
act_number (master_delete verdict) = 3
act_number set_fall_back = 4
act_number (status life fallback) = 5
act_number keyed = 6
act_number (stored n) = 7
act_number (finished policy mark) = 8
act_number (set_policy policy) = 9

abbrev pub same_act : Act → Act → Bool
same_act a b = eqb (act_number a) (act_number b)

-- of a call that concerns one target, by its AID and the act; `other` where it concerns none
abbrev pub on_target {ℓ} : {X : Type ℓ} → X → (List ℕ → Act → X) → Asked → X
on_target other f unread = other
on_target other f (create aid quota) = other
on_target other f (on aid act) = f aid act
on_target other f (confirm number) = other
on_target other f (status_of_all next life fallback) = other
on_target other f get_data = other
on_target other f tick = other
on_target other f lost = other
