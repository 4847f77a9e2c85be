use Rattle.region_compact.proofs.MapAfter.{SizesAreTheRoom-all}
use Rattle.region_compact.proofs.Needed.{SizesAreTheRoomNeeded-all}
use Rattle.region_compact.proofs.Orders.{CompactionsHaveTheirSize-all}
use Rattle.region_compact.proofs.laws.sizes_are_the_room.Goals as goal

pub returns-clause-bytes : goal.returns-clause-bytes
returns-clause-bytes c = CompactionsHaveTheirSize-all

pub returns-clause-room : goal.returns-clause-room
returns-clause-room c = SizesAreTheRoom-all

pub returns-clause-needed : goal.returns-clause-needed
returns-clause-needed c = SizesAreTheRoomNeeded-all
