mod RisingPairs
